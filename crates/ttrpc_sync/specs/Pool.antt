-- The workers of one connection that wait for a job, and how many there are to be.
-- Source: the Rust crate ttrpc, the counts of threads of its server with threads.
use Rattle.std.specs.Prelude.{ℕ}

-- a pool in which `waiting` workers wait; the three limits are fixed when the pool is made
pub record Pool : Type 0 where
  pub default : ℕ
  pub min : ℕ
  pub max : ℕ
  pub waiting : ℕ

-- the same pool with this many waiting workers
abbrev pub with_waiting : Pool → ℕ → Pool
with_waiting pool waiting = record pool { waiting = waiting }
