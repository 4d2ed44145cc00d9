-- A run of the engine, one piece after the other, and how it ends.
use Rattle.std.proofs.Common.{◌≡◌, ◌≢◌, inl, inr, ℕ, ◌+◌, ◌≤◌, List, [], ◌∷◌, ◌++◌, length, take, Option, arith, refl, sym, ap, subst, ◌∙◌, codes, length-append}
use Rattle.std.proofs.lemmas.List.{append-nil}
use Rattle.std.specs.Io.KnownBytes.{Appends, Consumes, IsAtEnd, Keeps}
use Rattle.ttrpc_proto.specs.declared.error.Error.{Error}
use Rattle.ttrpc_proto.specs.declared.error.Error.TheVariants.{Socket, NoMemory}
use Rattle.ttrpc_proto.specs.declared.framing.frame.Incoming.{Incoming}
use Rattle.ttrpc_proto.specs.Framing.Frames.{Frames, Held, Holds, Fed, nothing, held_of}
use Rattle.ttrpc_proto.specs.Framing.Queue.{unsent}
use Rattle.ttrpc_proto.proofs.Frames.{exact, nothing_held}
use Rattle.ttrpc_secure.specs.declared.plain.Plain.{Plain}
use Rattle.ttrpc_connection.specs.Failure.{IsTold}
use Rattle.ttrpc_connection.proofs.Feeding.{fed_twice, nothing_taken}
use Rattle.ttrpc_server.specs.declared.server.ServerCore.{ServerCore}
use Rattle.ttrpc_echo.specs.Echo.{AreAnswers}
use Rattle.ttrpc_echo.specs.Answered.{AnsweredAll, Fails, IsCause, StopsEarly}
use Rattle.ttrpc_echo.specs.Serving.{IsFresh, IsReady, PassesOn, PassesPart}
use Rattle.ttrpc_echo.proofs.Echoing.{answers_twice, whole_front}
use Rattle.ttrpc_echo.proofs.Known.{appends_twice, consumed_nothing, consumes_kept, consumes_nothing, consumes_twice, keeps_appends_nothing, keeps_same}
use Rattle.ttrpc_echo.proofs.Passing.{cause_past, take_past}

-- ---- the run so far

-- all that was read is served, and all that answers it is written
pub record SoFar (before now held holds : Option (List ℕ)) (core : ServerCore Plain Plain) : Type 0 where
  pub bytes : List ℕ
  pub frames : List Incoming
  pub answers : List ℕ
  pub read : Consumes before now bytes
  pub fed : Fed nothing bytes frames core.connection.decoder
  pub are_answers : AreAnswers frames answers
  pub wrote : Appends held holds answers
  pub ready : IsReady core
  pub queue : unsent core.connection.outbox.queue ≡ []
  pub jobs : core.state.jobs.last ≤ length frames

pub so_far_none : (before held : Option (List ℕ)) (core : ServerCore Plain Plain) → IsFresh core → SoFar before before held held core
so_far_none before held core fresh = record {
  bytes = [];
  frames = [];
  answers = [];
  read = consumes_nothing before;
  fed = subst (λ (h : Held). Fed nothing [] [] h) (sym fresh.held) (nothing_taken nothing);
  are_answers = refl;
  wrote = keeps_appends_nothing held held (keeps_same held);
  ready = fresh.ready;
  queue = fresh.queue;
  jobs = omega (arith, fresh.last_job);
}

pub so_far_more : (before now next held holds wrote : Option (List ℕ)) (core new : ServerCore Plain Plain) (piece : List ℕ) → SoFar before now held holds core → Consumes now next piece
    → PassesOn core holds piece new wrote → IsReady new → unsent new.connection.outbox.queue ≡ [] → SoFar before next held wrote new
so_far_more before now next held holds wrote core new piece s read passes ready none = record {
  bytes = s.bytes ++ piece;
  frames = s.frames ++ passes.frames;
  answers = s.answers ++ passes.answers;
  read = consumes_twice before now next s.bytes piece s.read read;
  fed = fed_twice nothing core.connection.decoder new.connection.decoder s.bytes piece s.frames passes.frames s.fed passes.fed;
  are_answers = answers_twice s.frames passes.frames s.answers passes.answers s.are_answers passes.are_answers;
  wrote = appends_twice held holds wrote s.answers passes.answers s.wrote passes.wrote;
  ready = ready;
  queue = none;
  jobs = omega (arith, s.jobs, passes.jobs, length-append s.frames passes.frames);
}

-- ---- the end

-- the rest that is held
pub rest_of : {before now held holds : Option (List ℕ)} {core : ServerCore Plain Plain} (s : SoFar before now held holds core) → (rest : List ℕ) × Frames s.bytes s.frames rest × Holds core.connection.decoder rest
rest_of s = s.fed [] nothing_held

answered : (before now next held holds : Option (List ℕ)) (core : ServerCore Plain Plain) (s : SoFar before now held holds core) → Consumes now next [] → IsAtEnd next
    → AnsweredAll before next held holds (rest_of s).0
answered before now next held holds core s read end = record {
  bytes = s.bytes;
  frames = s.frames;
  answers = s.answers;
  read = subst (λ xs. Consumes before next xs) (append-nil s.bytes) (consumes_twice before now next s.bytes [] s.read read);
  end = end;
  are_frames = (rest_of s).1;
  are_answers = s.are_answers;
  wrote = s.wrote;
}

pub ends_between : (before now next held holds : Option (List ℕ)) (core : ServerCore Plain Plain) → SoFar before now held holds core → Consumes now next [] → IsAtEnd next
    → core.connection.decoder ≡ nothing → AnsweredAll before next held holds []
ends_between before now next held holds core s read end none =
    let rest : (rest_of s).0 ≡ [] = exact [] (rest_of s).0 (subst (λ (h : Held). Holds h (rest_of s).0) none (rest_of s).2) in
    subst (λ r. AnsweredAll before next held holds r) rest (answered before now next held holds core s read end)

-- ---- what stops a run

-- the run stops before it begins
pub stops_first : (before held : Option (List ℕ)) (e : Error) → e ≡ NoMemory → StopsEarly before before held held e
stops_first before held e memory = record {
  part = record {
    bytes = [];
    frames = [];
    rest = [];
    answers = [];
    count = 0;
    read = consumes_nothing before;
    are_frames = refl;
    are_answers = refl;
    wrote = keeps_appends_nothing held held (keeps_same held);
  };
  cause = inl memory;
}

-- the run stops where all was served and written
pub stops_between : (before now next held holds : Option (List ℕ)) (core : ServerCore Plain Plain) (e : Error) → SoFar before now held holds core → Keeps now next
    → ((frames : List Incoming) → IsCause e frames) → StopsEarly before next held holds e
stops_between before now next held holds core e s read cause = record {
  part = record {
    bytes = s.bytes;
    frames = s.frames;
    rest = (rest_of s).0;
    answers = s.answers;
    count = length s.answers;
    read = consumes_kept before now next s.bytes s.read read;
    are_frames = (rest_of s).1;
    are_answers = s.are_answers;
    wrote = subst (λ xs. Appends held holds xs) (sym (ap (λ l. take (length s.answers) l) (sym (append-nil s.answers)) ∙ whole_front s.answers [])) s.wrote;
  };
  cause = cause s.frames;
}

-- the run stops in a piece
pub stops_inside : (before now next held holds wrote : Option (List ℕ)) (core : ServerCore Plain Plain) (piece : List ℕ) (e : Error) (s : SoFar before now held holds core) → Consumes now next piece
    → PassesPart core holds piece e wrote → StopsEarly before next held wrote e
stops_inside before now next held holds wrote core piece e s read p =
    let all = fed_twice nothing core.connection.decoder p.after s.bytes piece s.frames p.frames s.fed p.fed [] nothing_held in
    record {
      part = record {
        bytes = s.bytes ++ piece;
        frames = s.frames ++ p.frames;
        rest = all.0;
        answers = s.answers ++ p.answers;
        count = length s.answers + p.count;
        read = consumes_twice before now next s.bytes piece s.read read;
        are_frames = all.1;
        are_answers = answers_twice s.frames p.frames s.answers p.answers s.are_answers p.are_answers;
        wrote = subst (λ xs. Appends held wrote xs) (sym (take_past s.answers p.answers p.count)) (appends_twice held holds wrote s.answers (take p.count p.answers) s.wrote p.wrote);
      };
      cause = cause_past 0 core.state.jobs.last e s.frames p.frames (omega (arith, s.jobs)) p.cause;
    }

-- the input ends inside a frame
pub ends_inside : (before now next held holds : Option (List ℕ)) (core : ServerCore Plain Plain) (e : Error) → SoFar before now held holds core → Consumes now next [] → IsAtEnd next
    → core.connection.decoder ≢ nothing → IsTold (Socket (codes "socket disconnected inside a frame")) e → Fails before next held holds e
ends_inside before now next held holds core e s read end inside (inl told) = inr (record {
  rest = (rest_of s).0;
  inside = λ none. inside ((rest_of s).2.0 ∙ ap held_of none);
  no_frame = (rest_of s).2.1;
  all = answered before now next held holds core s read end;
  told = told;
})
ends_inside before now next held holds core e s read end inside (inr memory) = inl (stops_between before now next held holds core e s (consumed_nothing now next read) (λ _. inl memory))
