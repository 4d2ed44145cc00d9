-- A piece is fed in turns: each takes a front of what is left, and at most one frame acts.
use Rattle.ttrpc_connection.proofs.Words.{◌≡◌, ◌<◌, ◌≤◌, ◌-◌, ◌⊎◌, inl, inr, true, false, ap, ◌∙◌, arith, cases_Bool, cases_lt, ℕ, List, [], ◌∷◌, ◌++◌, length, length-append, take, drop, refl, sym, subst, append_assoc, Option, Some, None, IsSome, take-append-drop, length-take-le, append-nil, Error, Incoming, Frames, Held, Fed, given, nothing, frames_append, Arrived, Connection, Failure, NoMemory, IsTold, error_of, is_open, Opens, Outbox, SendsAll, Sent, header_of_frame, Ways, Scene, ActsAll, Breaks, Feeds, FeedsFront, IsWhy, scene}
use Rattle.std.proofs.lemmas.Bool.{and_parts}
use Rattle.std.proofs.lemmas.List.{take_at}
use Rattle.std.specs.Prelude.{nat_le}
use Rattle.ttrpc_proto.specs.Framing.Queue.{free}
use Rattle.ttrpc_connection.specs.Inside.{FrontActs, StopsAt}
use Rattle.ttrpc_connection.specs.OneEnd.{AreTaken}

pub nothing_taken : (held : Held) → Fed held [] [] held
nothing_taken held = λ before h. (before, append-nil before, h)

-- one piece after the other, as one
pub fed_twice : (held mid new : Held) (p q : List ℕ) (is js : List Incoming) → Fed held p is mid → Fed mid q js new → Fed held (p ++ q) (is ++ js) new
fed_twice held mid new p q is js one two = λ before h.
    let a = one before h in
    let b = two a.0 a.2 in
    (b.0, subst (λ bytes. Frames bytes (is ++ js) b.0) (append_assoc before p q) (frames_append (before ++ p) is a.0 q js b.0 a.1 b.1), b.2)

pub acts_twice : {S O I : Type 0} (w : Ways S O I) (at : ℕ) (fs gs : List Incoming) (old mid new : Scene S O I) → ActsAll w at old fs mid → ActsAll w at mid gs new → ActsAll w at old (fs ++ gs) new
acts_twice w at [] gs old mid new one two = subst (λ c. ActsAll w at c gs new) one two
acts_twice w at (f ∷ fs) gs old mid new one two = (one.0, one.1, acts_twice w at fs gs one.0 mid new one.2 two)

-- ---- a front of a piece

no_frame : (held : Held) → IsSome {T = Incoming} None → held ≡ nothing
no_frame held h = cc

-- the decoder took nothing
pub stops_early : {S O I : Type 0} (w : Ways S O I) (s : S) (old : Connection O I) (piece : List ℕ) (at : ℕ) (held : Held) → held ≡ old.decoder
    → StopsAt w s old piece at NoMemory s (record old { decoder = held })
stops_early w s old piece at held same = record {
  frame = None;
  front = [];
  back = piece;
  piece_is = refl;
  fed = rw same (nothing_taken old.decoder);
  at_its_end = no_frame held;
  state = refl;
  outbox = refl;
  why = (refl, refl);
}

-- a frame was whole, and the connection is to fail at it
pub stops_at : {S O I : Type 0} (w : Ways S O I) (s : S) (old : Connection O I) (piece : List ℕ) (at n : ℕ) (f : Incoming) (o : Option Incoming) (failure : Failure) (t : S) (new : Connection O I)
    → o ≡ Some f → Fed old.decoder (take n piece) (given o) new.decoder → new.decoder ≡ nothing → t ≡ s → new.outbox ≡ old.outbox → IsWhy w at (scene s old) (Some f) failure new.inbound → StopsAt w s old piece at failure t new
stops_at w s old piece at n f o failure t new is fed ends state outbox why = record {
  frame = Some f;
  front = take n piece;
  back = drop n piece;
  piece_is = sym (take-append-drop n piece);
  fed = subst (λ (x : Option Incoming). Fed old.decoder (take n piece) (given x) new.decoder) is fed;
  at_its_end = λ _. ends;
  state = state;
  outbox = outbox;
  why = why;
}

-- the core's word for it
pub core_says : {S O I : Type 0} (w : Ways S O I) (at : ℕ) (s : S) (old : Connection O I) (f : Incoming) (a : Arrived) (inbound : I) (failure : Failure) → Opens w.in_ old.inbound f a.opening inbound
    → a.header ≡ header_of_frame f → a.now ≡ at → (failure ≡ NoMemory) ⊎ w.core.fails s a failure → IsWhy w at (scene s old) (Some f) failure inbound
core_says w at s old f a inbound failure opens header now (inl e) = inr (a.opening, opens, inl e)
core_says w at s old f a inbound failure opens header now (inr e) =
    inr (a.opening, opens, inr (rw (← header, ← now) e))

-- a frame was whole, and acted
pub took_frame : {S O I : Type 0} (w : Ways S O I) (s : S) (old : Connection O I) (front : List ℕ) (at : ℕ) (f : Incoming) (o : Option Incoming) (a : Arrived) (t : S) (new : Connection O I)
    → o ≡ Some f → Fed old.decoder front (given o) new.decoder → new.decoder ≡ nothing → Opens w.in_ old.inbound f a.opening new.inbound
    → a.header ≡ header_of_frame f → a.now ≡ at
    → (sent : List Sent) × w.core.reacts s old.outbox.half a sent t × SendsAll w.out old.outbox sent new.outbox
    → w.core.takes t ≡ w.core.takes s → is_open w s old.outbox ≡ true
    → FrontActs w s old front at t new
took_frame w s old front at f o a t new is fed ends opens header now reacts kept was_open = record {
  frame = Some f;
  fed = subst (λ (x : Option Incoming). Fed old.decoder front (given x) new.decoder) is fed;
  at_its_end = λ _. ends;
  acts = (
    scene t new,
    record {
      was_open = was_open;
      opening = a.opening;
      opens = opens;
      sent = reacts.0;
      reacts = rw (← header, ← now) reacts.1;
      sends = reacts.2;
      takes = kept;
    },
    refl,
  );
}

-- none was whole
pub took_part : {S O I : Type 0} (w : Ways S O I) (s : S) (old : Connection O I) (front : List ℕ) (at : ℕ) (o : Option Incoming) (held : Held)
    → o ≡ None → Fed old.decoder front (given o) held → FrontActs w s old front at s (record old { decoder = held })
took_part w s old front at o held is fed = record {
  frame = None;
  fed = subst (λ (x : Option Incoming). Fed old.decoder front (given x) held) is fed;
  at_its_end = no_frame held;
  acts = refl;
}

-- ---- a whole piece

-- no frame changes whether the core takes
pub acts_keep : {S O I : Type 0} (w : Ways S O I) (at : ℕ) (fs : List Incoming) (old new : Scene S O I) → ActsAll w at old fs new → w.core.takes new.state ≡ w.core.takes old.state
acts_keep w at [] old new same = ap (λ c. w.core.takes c.state) same
acts_keep w at (f ∷ fs) old new acts = acts_keep w at fs acts.0 new acts.2 ∙ acts.1.takes

pub open_takes : {S O I : Type 0} (w : Ways S O I) (s : S) (o : Outbox O) → is_open w s o ≡ true → w.core.takes s ≡ true
open_takes w s o e = (and_parts (w.core.takes s) (nat_le w.core.ROOM (free o.queue)) e).0

pub still_takes : {S O I : Type 0} (w : Ways S O I) (s : S) (old : Connection O I) (piece : List ℕ) (at : ℕ) (t : S) (new : Connection O I) → Feeds w s old piece at t new → w.core.takes t ≡ true
still_takes w s old piece at t new feeds = acts_keep w at feeds.frames (scene s old) (scene t new) feeds.acts ∙ open_takes w s old.outbox feeds.was_open

-- a core that is open behind frames was open before them
pub open_before : {S O I : Type 0} (w : Ways S O I) (at : ℕ) (fs : List Incoming) (old new : Scene S O I) → ActsAll w at old fs new → is_open w new.state new.outbox ≡ true → is_open w old.state old.outbox ≡ true
open_before w at [] old new same was_open = subst (λ c. is_open w c.state c.outbox ≡ true) same was_open
open_before w at (f ∷ fs) old new acts was_open = acts.1.was_open

-- and if it isn't behind a front, a frame ends there
front_stops : {S O I : Type 0} (w : Ways S O I) (s : S) (old : Connection O I) (front : List ℕ) (at : ℕ) (t : S) (new : Connection O I) → FeedsFront w s old front at t new → is_open w t new.outbox ≡ false → new.decoder ≡ nothing
front_stops w s old front at t new x shut = by x.frame x.acts x.at_its_end
  where
    by : (frame : Option Incoming) → ActsAll w at (scene s old) (given frame) (scene t new) → (IsSome frame → new.decoder ≡ nothing) → new.decoder ≡ nothing
    by None same ends = absurd (cc (x.was_open, shut, ap (λ (c : Scene _ _ _). is_open w c.state c.outbox) same))
    by (Some f) acts ends = ends refl

pub feeds_joined : {S O I : Type 0} (w : Ways S O I) (s : S) (old : Connection O I) (at : ℕ) (u : S) (mid : Connection O I) (t : S) (new : Connection O I) (p q : List ℕ)
    → Feeds w s old p at u mid → Feeds w u mid q at t new → Feeds w s old (p ++ q) at t new
feeds_joined w s old at u mid t new p q one two = record {
  was_open = one.was_open;
  alive = one.alive;
  still = two.still;
  frames = one.frames ++ two.frames;
  fed = fed_twice old.decoder mid.decoder new.decoder p q one.frames two.frames one.fed two.fed;
  acts = acts_twice w at one.frames two.frames (scene s old) (scene u mid) (scene t new) one.acts two.acts;
  stops = two.stops;
}

-- so far a front of the piece was taken, and the rest is to be taken
pub record SoFar {S O I : Type 0} (w : Ways S O I) (s : S) (old : Connection O I) (piece rest : List ℕ) (at : ℕ) (t : S) (new : Connection O I) : Type 0 where
  pub front : List ℕ
  pub piece_is : piece ≡ front ++ rest
  pub feeds : Feeds w s old front at t new
  pub none : front ≡ [] → (t ≡ s) × (new ≡ old)

pub at_first : {S O I : Type 0} (w : Ways S O I) (s : S) (old : Connection O I) (piece : List ℕ) (at : ℕ) → is_open w s old.outbox ≡ true → old.failure ≡ None → SoFar w s old piece piece at s old
at_first w s old piece at was_open alive = record {
  front = [];
  piece_is = refl;
  feeds = record { was_open = was_open; alive = alive; still = alive; frames = []; fed = nothing_taken old.decoder; acts = refl; stops = λ shut. absurd (cc (was_open, shut)) };
  none = λ _. (refl, refl);
}

pub one_more : {S O I : Type 0} (w : Ways S O I) (s : S) (old : Connection O I) (piece rest : List ℕ) (at : ℕ) (t : S) (mid : Connection O I) (n : ℕ) (u : S) (new : Connection O I)
    → SoFar w s old piece rest at t mid → FeedsFront w t mid (take n rest) at u new → 0 < length (take n rest) → SoFar w s old piece (drop n rest) at u new
one_more w s old piece rest at t mid n u new p x some = record {
  front = p.front ++ take n rest;
  piece_is = rw (append_assoc, take-append-drop) p.piece_is;
  feeds = feeds_joined w s old at t mid u new p.front (take n rest) p.feeds (record { was_open = x.was_open; alive = x.alive; still = x.still; frames = given x.frame; fed = x.fed; acts = x.acts; stops = front_stops w t mid (take n rest) at u new x });
  none = λ e. absurd (omega (arith, some, length-append p.front (take n rest), ap (λ (l : List ℕ). length l) e));
}

-- what was taken so far, by whether the core was open at first
abbrev pub InTurns : {S O I : Type 0} → Ways S O I → S → Connection O I → List ℕ → List ℕ → ℕ → S → Connection O I → Type 0
InTurns w s old piece rest at t new = (is_open w s old.outbox ≡ true → SoFar w s old piece rest at t new) × (is_open w s old.outbox ≡ false → (rest ≡ piece) × (t ≡ s) × (new ≡ old))

-- a core that is open behind some turns was open at first
pub first_open : {S O I : Type 0} (w : Ways S O I) (s : S) (old : Connection O I) (piece rest : List ℕ) (at : ℕ) (t : S) (new : Connection O I) → InTurns w s old piece rest at t new → is_open w t new.outbox ≡ true → is_open w s old.outbox ≡ true
first_open w s old piece rest at t new x now = elim (cases_Bool (is_open w s old.outbox)) [
  | inl e ↦ e
  | inr shut ↦ absurd (let same = x.1 shut in cc (now, shut, same.1, ap (λ (c : Connection _ _). c.outbox) same.2))
]

-- one turn more, which takes a front of at least a byte
pub turn_more : {S O I : Type 0} (w : Ways S O I) (s : S) (old : Connection O I) (piece rest : List ℕ) (at : ℕ) (t : S) (mid : Connection O I) (n : ℕ) (u : S) (new : Connection O I)
    → InTurns w s old piece rest at t mid → is_open w t mid.outbox ≡ true → FeedsFront w t mid (take n rest) at u new → n ≤ length rest → 0 < n → InTurns w s old piece (drop n rest) at u new
turn_more w s old piece rest at t mid n u new x now front all some =
    let first = first_open w s old piece rest at t mid x now in
    (λ _. one_more w s old piece rest at t mid n u new (x.0 first) front (omega (arith, length-take-le n rest all, some)), λ shut. absurd (cc (first, shut)))

-- the front that was taken
pub front_taken : {S O I : Type 0} (w : Ways S O I) (s : S) (old : Connection O I) (piece rest : List ℕ) (at : ℕ) (t : S) (new : Connection O I) → SoFar w s old piece rest at t new
    → (length rest ≤ length piece) × Feeds w s old (take (length piece - length rest) piece) at t new
front_taken w s old piece rest at t new p =
    let size = ap (λ (l : List ℕ). length l) p.piece_is in
    let parts = length-append p.front rest in
    let n : length piece - length rest ≡ length p.front = omega (arith, size, parts) in
    let same : take (length piece - length rest) piece ≡ p.front = rw (n, p.piece_is) (take_at p.front rest (length p.front) refl) in
    (omega (arith, size, parts), rw same p.feeds)

pub are_taken : {S O I : Type 0} (w : Ways S O I) (s : S) (old : Connection O I) (piece rest : List ℕ) (at : ℕ) (t : S) (new : Connection O I) → is_open w s old.outbox ≡ true → SoFar w s old piece rest at t new
    → (0 < length rest → is_open w t new.outbox ≡ false) → AreTaken w piece (length piece - length rest) t new
are_taken w s old piece rest at t new was_open p ended =
    let size = ap (λ (l : List ℕ). length l) p.piece_is in
    let parts = length-append p.front rest in
    record {
      count = omega (arith, size, parts);
      some = λ bytes. elim (cases_lt 0 (length p.front)) [
        | inl some ↦ omega (arith, size, parts, some)
        | inr none ↦
            let empty : p.front ≡ [] = is_empty p.front none in
            let same = p.none empty in
            elim (cases_lt 0 (length rest)) [
              | inl more ↦ absurd (let shut = ended more in cc (was_open, shut, same.0, ap (λ (c : Connection _ _). c.outbox) same.1))
              | inr done ↦ omega (arith, size, parts, bytes, none, done)
            ]
      ];
      short = λ less. ended (omega (arith, less));
    }
  where
    is_empty : (xs : List ℕ) → length xs ≤ 0 → xs ≡ []
    is_empty [] le = refl
    is_empty (x ∷ xs) le = absurd (omega arith)

pub breaks : {S O I : Type 0} (w : Ways S O I) (s : S) (old : Connection O I) (piece : List ℕ) (at : ℕ) (failure : Failure) (told : Error) (t : S) (mid : Connection O I) → is_open w s old.outbox ≡ true → old.failure ≡ None
    → StopsAt w s old piece at failure t mid → IsTold (error_of failure) told → Breaks w s old piece at told t (record mid { failure = Some failure })
breaks w s old piece at failure told t mid was_open alive x is_told = record {
  alive = alive;
  frames = [];
  last = x.frame;
  taken = x.front;
  rest = x.back;
  piece_is = x.piece_is;
  fed = x.fed;
  at_its_end = x.at_its_end;
  mid = scene s old;
  acts = refl;
  was_open = was_open;
  state = x.state;
  outbox = x.outbox;
  failure = failure;
  why = x.why;
  fails = refl;
  is_told = is_told;
}

-- the connection breaks at the same frame where other bytes lead up to it, from another connection
pub breaks_so : {S O I : Type 0} (w : Ways S O I) (r s : S) (first old : Connection O I) (piece p : List ℕ) (at : ℕ) (told : Error) (t : S) (new : Connection O I) (b : Breaks w s old p at told t new)
    (frames : List Incoming) (taken rest : List ℕ) → first.failure ≡ None → piece ≡ taken ++ rest → Fed first.decoder taken (frames ++ given b.last) new.decoder → ActsAll w at (scene r first) frames b.mid
    → Breaks w r first piece at told t new
breaks_so w r s first old piece p at told t new b frames taken rest alive piece_is fed acts = record {
  alive = alive;
  frames = frames;
  last = b.last;
  taken = taken;
  rest = rest;
  piece_is = piece_is;
  fed = fed;
  at_its_end = b.at_its_end;
  mid = b.mid;
  acts = acts;
  was_open = b.was_open;
  state = b.state;
  outbox = b.outbox;
  failure = b.failure;
  why = b.why;
  fails = b.fails;
  is_told = b.is_told;
}

-- a front was taken, and the rest breaks the connection
pub breaks_behind : {S O I : Type 0} (w : Ways S O I) (s : S) (old : Connection O I) (at : ℕ) (u : S) (mid : Connection O I) (told : Error) (t : S) (new : Connection O I) (p q : List ℕ)
    → Feeds w s old p at u mid → Breaks w u mid q at told t new → Breaks w s old (p ++ q) at told t new
breaks_behind w s old at u mid told t new p q one b =
    breaks_so w s u old mid (p ++ q) q at told t new b (one.frames ++ b.frames) (p ++ b.taken) b.rest one.alive (rw (append_assoc, b.piece_is) refl)
    (rw append_assoc (fed_twice old.decoder mid.decoder new.decoder p b.taken one.frames (b.frames ++ given b.last) one.fed b.fed))
    (acts_twice w at one.frames b.frames (scene s old) (scene u mid) b.mid one.acts b.acts)

pub breaks_later : {S O I : Type 0} (w : Ways S O I) (s : S) (old : Connection O I) (piece rest : List ℕ) (at : ℕ) (t : S) (mid : Connection O I) (told : Error) (u : S) (new : Connection O I)
    → SoFar w s old piece rest at t mid → Breaks w t mid rest at told u new → Breaks w s old piece at told u new
breaks_later w s old piece rest at t mid told u new p b = rw p.piece_is (breaks_behind w s old at t mid told u new p.front rest p.feeds b)
