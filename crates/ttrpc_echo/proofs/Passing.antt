-- One piece, passed on: served as far as there is room, written, and again.
use Rattle.std.proofs.Common.{◌≡◌, inl, inr, ℕ, suc, ◌+◌, ◌≤◌, List, [], ◌∷◌, ◌++◌, length, take, drop, Option, Some, None, arith, refl, sym, ap, subst, ◌∙◌, append_assoc, length-append}
use Rattle.std.proofs.lemmas.List.{append-nil, take-append-drop}
use Rattle.std.specs.Io.KnownBytes.{Appends}
use Rattle.ttrpc_proto.specs.declared.error.Error.{Error}
use Rattle.ttrpc_proto.specs.declared.messages.Response.{Response}
use Rattle.ttrpc_proto.specs.declared.framing.frame.Incoming.{Incoming}
use Rattle.ttrpc_proto.specs.Framing.Frames.{Held, Holds, Fed}
use Rattle.ttrpc_proto.specs.Framing.Queue.{unsent}
use Rattle.ttrpc_secure.specs.declared.plain.Plain.{Plain}
use Rattle.ttrpc_connection.specs.Frames.{header_of_frame}
use Rattle.ttrpc_connection.proofs.Feeding.{fed_twice, nothing_taken}
use Rattle.ttrpc_connection.proofs.Holding.{fed_some}
use Rattle.ttrpc_server.specs.declared.server.ServerCore.{ServerCore}
use Rattle.ttrpc_server.specs.Table.{status_response, Row, Ignore, SendResponse, SendCode, MakeJob, MakeStream, PutIn, sync_row}
use Rattle.ttrpc_echo.specs.Echo.{AreAnswers, Says, echo_of, echo_services, plainly, said_bytes}
use Rattle.ttrpc_echo.specs.Answered.{IsCausePast, IsOfStream}
use Rattle.ttrpc_echo.specs.Serving.{IsStop, PassesOn, PassesPart, Serves, WritesOut}
use Rattle.ttrpc_echo.proofs.Echoing.{answers_twice, whole_front}
use Rattle.ttrpc_echo.proofs.Known.{appends_twice, keeps_appends_nothing, keeps_same}

-- ---- each list of frames has answers

says_some : (row : Row) → (said : Option Response) × Says row said
says_some Ignore = (None, refl)
says_some (SendResponse r) = (Some r, refl)
says_some (SendCode code) = (Some (status_response code []), (status_response code [], ([], refl), refl))
says_some (MakeJob request) = (Some (echo_of request), refl)
says_some (MakeStream request) = (None, refl)
says_some (PutIn payload) = (None, refl)

answers_some : (fs : List Incoming) → (bytes : List ℕ) × AreAnswers fs bytes
answers_some [] = ([], refl)
answers_some (f ∷ fs) =
    let one = says_some (sync_row echo_services (header_of_frame f) (plainly f)) in
    let first = said_bytes ((header_of_frame f).stream_id) one.0 in
    let more = answers_some fs in
    (first ++ more.0, (first, more.0, record { said = one.0; says = one.1; bytes_are = refl }, refl, more.1))

-- ---- beginnings of answers

pub take_past : (xs ys : List ℕ) (n : ℕ) → take (length xs + n) (xs ++ ys) ≡ xs ++ take n ys
take_past [] ys n = ap (λ k. take k ys) (omega (arith))
take_past (x ∷ xs) ys n =
    let more : length (x ∷ xs) + n ≡ suc (length xs + n) = omega (arith) in
    ap (λ k. take k (x ∷ xs ++ ys)) more ∙ ap (λ l. x ∷ l) (take_past xs ys n)

-- a cause after some frames is one after all frames
pub cause_past : (last now : ℕ) (e : Error) (frames more : List Incoming) → now ≤ last + length frames → IsCausePast now e more → IsCausePast last e (frames ++ more)
cause_past last now e frames more jobs (inl memory) = inl memory
cause_past last now e frames more jobs (inr (inl system)) = inr (inl system)
cause_past last now e frames more jobs (inr (inr used)) = inr (inr (used.0, omega (arith, used.1, jobs, length-append frames more)))

-- ---- rounds that end well

pub passes_nothing : (s : ServerCore Plain Plain) (held : Option (List ℕ)) → PassesOn s held [] s held
passes_nothing s held = record { frames = []; answers = []; fed = nothing_taken s.connection.decoder; are_answers = refl; wrote = keeps_appends_nothing held held (keeps_same held); jobs = omega (arith) }

passes_twice : (a b c : ServerCore Plain Plain) (x y : List ℕ) (held holds wrote : Option (List ℕ)) → PassesOn a held x b holds → PassesOn b holds y c wrote → PassesOn a held (x ++ y) c wrote
passes_twice a b c x y held holds wrote one two = record {
  frames = one.frames ++ two.frames;
  answers = one.answers ++ two.answers;
  fed = fed_twice a.connection.decoder b.connection.decoder c.connection.decoder x y one.frames two.frames one.fed two.fed;
  are_answers = answers_twice one.frames two.frames one.answers two.answers one.are_answers two.are_answers;
  wrote = appends_twice held holds wrote one.answers two.answers one.wrote two.wrote;
  jobs = omega (arith, one.jobs, two.jobs, length-append one.frames two.frames);
}

-- what is to be written for what was served
to_write : (xs ys zs : List ℕ) → xs ≡ [] → ys ≡ xs ++ zs → ys ≡ zs
to_write xs ys zs none is = is ∙ ap (λ l. l ++ zs) none

-- a front was served, and all was written
round_passes : (old mid new : ServerCore Plain Plain) (front : List ℕ) (holds wrote : Option (List ℕ)) → unsent old.connection.outbox.queue ≡ [] → Serves old front mid → WritesOut mid holds new wrote
    → unsent new.connection.outbox.queue ≡ [] → PassesOn old holds front new wrote
round_passes old mid new front holds wrote empty serves out none =
    let answers : serves.answers ≡ out.bytes = sym (to_write _ _ _ empty serves.more) ∙ out.sent ∙ ap (λ xs. out.bytes ++ xs) none ∙ append-nil out.bytes in
    record {
      frames = serves.frames;
      answers = serves.answers;
      fed = rw out.held serves.fed;
      are_answers = serves.are_answers;
      wrote = rw answers out.wrote;
      jobs = omega (arith, serves.jobs, out.last_job);
    }

-- so far a front of the piece was passed on, and the rest is to be
pub record PassedSoFar (old : ServerCore Plain Plain) (held : Option (List ℕ)) (piece rest : List ℕ) (now : ServerCore Plain Plain) (holds : Option (List ℕ)) : Type 0 where
  pub front : List ℕ
  pub piece_is : piece ≡ front ++ rest
  pub passes : PassesOn old held front now holds

pub passed_first : (s : ServerCore Plain Plain) (held : Option (List ℕ)) (piece : List ℕ) → PassedSoFar s held piece piece s held
passed_first s held piece = record { front = []; piece_is = refl; passes = passes_nothing s held }

pub passed_more : (old now mid new : ServerCore Plain Plain) (held holds wrote : Option (List ℕ)) (piece rest : List ℕ) (n : ℕ) → PassedSoFar old held piece rest now holds
    → unsent now.connection.outbox.queue ≡ [] → Serves now (take n rest) mid → WritesOut mid holds new wrote → unsent new.connection.outbox.queue ≡ [] → PassedSoFar old held piece (drop n rest) new wrote
passed_more old now mid new held holds wrote piece rest n p empty serves out none = record {
  front = p.front ++ take n rest;
  piece_is = p.piece_is ∙ ap (λ xs. p.front ++ xs) (sym (take-append-drop n rest)) ∙ sym (append_assoc p.front (take n rest) (drop n rest));
  passes = passes_twice old now new p.front (take n rest) held holds wrote p.passes (round_passes now mid new (take n rest) holds wrote empty serves out none);
}

pub passed_all : (old now : ServerCore Plain Plain) (held holds : Option (List ℕ)) (piece rest : List ℕ) → PassedSoFar old held piece rest now holds → rest ≡ [] → PassesOn old held piece now holds
passed_all old now held holds piece rest p none =
    subst (λ (xs : List ℕ). PassesOn old held xs now holds) (sym (append-nil p.front) ∙ ap (λ xs. p.front ++ xs) (sym none) ∙ sym p.piece_is) p.passes

-- ---- rounds that stop

-- after a front was passed on, the rest wasn't
stops_later : (old now : ServerCore Plain Plain) (held holds wrote : Option (List ℕ)) (piece rest : List ℕ) (e : Error) (p : PassedSoFar old held piece rest now holds)
    → PassesPart now holds rest e wrote → PassesPart old held piece e wrote
stops_later old now held holds wrote piece rest e p s =
    let one = p.passes in
    record {
      frames = one.frames ++ s.frames;
      after = s.after;
      answers = one.answers ++ s.answers;
      count = length one.answers + s.count;
      fed = rw p.piece_is (fed_twice old.connection.decoder now.connection.decoder s.after p.front rest one.frames s.frames one.fed s.fed);
      are_answers = answers_twice one.frames s.frames one.answers s.answers one.are_answers s.are_answers;
      wrote = subst (λ xs. Appends held wrote xs) (sym (take_past one.answers s.answers s.count)) (appends_twice held holds wrote one.answers (take s.count s.answers) one.wrote s.wrote);
      cause = cause_past old.state.jobs.last now.state.jobs.last e one.frames s.frames one.jobs s.cause;
    }

-- a piece with these frames isn't answered at all
stops_with : (now : ServerCore Plain Plain) (holds : Option (List ℕ)) (rest : List ℕ) (e : Error) (frames : List Incoming) (after : Held) → Fed now.connection.decoder rest frames after
    → IsCausePast now.state.jobs.last e frames → PassesPart now holds rest e holds
stops_with now holds rest e frames after fed cause = record {
  frames = frames;
  after = after;
  answers = (answers_some frames).0;
  count = 0;
  fed = fed;
  are_answers = (answers_some frames).1;
  wrote = keeps_appends_nothing holds holds (keeps_same holds);
  cause = cause;
}

stops_at : (now : ServerCore Plain Plain) (holds : Option (List ℕ)) (before rest : List ℕ) (e : Error) → Holds now.connection.decoder before → IsStop now rest e → PassesPart now holds rest e holds
stops_at now holds before rest e at (inl memory) = let f = fed_some now.connection.decoder before rest at in stops_with now holds rest e f.0 f.1 f.2 (inl memory)
stops_at now holds before rest e at (inr used) = let f = used.1 before at in stops_with now holds rest e f.0 f.1 f.2 (inr (inr (used.0, f.3)))

-- the rest isn't served
pub stops_serving : (old now : ServerCore Plain Plain) (held holds : Option (List ℕ)) (before piece rest : List ℕ) (e : Error) → Holds old.connection.decoder before
    → PassedSoFar old held piece rest now holds → IsStop now rest e → PassesPart old held piece e holds
stops_serving old now held holds before piece rest e at p stop =
    let later = p.passes.fed before at in
    stops_later old now held holds holds piece rest e p (stops_at now holds later.0 rest e later.2 stop)

-- what answers a front of the rest isn't written whole
writes_part : (now mid new : ServerCore Plain Plain) (holds wrote : Option (List ℕ)) (before rest : List ℕ) (n : ℕ) (e : Error) → Holds now.connection.decoder before → unsent now.connection.outbox.queue ≡ []
    → Serves now (take n rest) mid → WritesOut mid holds new wrote → IsOfStream e → PassesPart now holds rest e wrote
writes_part now mid new holds wrote before rest n e at empty serves out system =
    let later = serves.fed before at in
    let f = fed_some mid.connection.decoder later.0 (drop n rest) later.2 in
    let left = unsent new.connection.outbox.queue in
    let more = answers_some f.0 in
    let gone : serves.answers ≡ out.bytes ++ left = sym (to_write _ _ _ empty serves.more) ∙ out.sent in
    let all : serves.answers ++ more.0 ≡ out.bytes ++ (left ++ more.0) = ap (λ xs. xs ++ more.0) gone ∙ append_assoc out.bytes left more.0 in
    record {
      frames = serves.frames ++ f.0;
      after = f.1;
      answers = serves.answers ++ more.0;
      count = length out.bytes;
      fed = subst (λ (xs : List ℕ). Fed now.connection.decoder xs (serves.frames ++ f.0) f.1) (take-append-drop n rest)
          (fed_twice now.connection.decoder mid.connection.decoder f.1 (take n rest) (drop n rest) serves.frames f.0 serves.fed f.2);
      are_answers = answers_twice serves.frames f.0 serves.answers more.0 serves.are_answers more.1;
      wrote = rw all (subst (λ xs. Appends holds wrote xs) (sym (whole_front out.bytes (left ++ more.0))) out.wrote);
      cause = inr (inl system);
    }

pub stops_writing : (old now mid new : ServerCore Plain Plain) (held holds wrote : Option (List ℕ)) (before piece rest : List ℕ) (n : ℕ) (e : Error) → Holds old.connection.decoder before
    → PassedSoFar old held piece rest now holds → unsent now.connection.outbox.queue ≡ [] → Serves now (take n rest) mid → WritesOut mid holds new wrote → IsOfStream e → PassesPart old held piece e wrote
stops_writing old now mid new held holds wrote before piece rest n e at p empty serves out system =
    let later = p.passes.fed before at in
    stops_later old now held holds wrote piece rest e p (writes_part now mid new holds wrote later.0 rest n e later.2 empty serves out system)
