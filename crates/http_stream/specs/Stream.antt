-- The answers to a stream of requests.
use Rattle.std.specs.Prelude.{◌≡◌, ℕ, ◌+◌, Bool, true, false, not, List, [], ◌∷◌, length, Option, Some, IfSome, Result, Ok, Err, IfOk, count_by}
use Rattle.std.specs.List.{flat_map}
use Rattle.std.specs.Io.KnownBytes.{Appends}
use Rattle.std.specs.Borrow.{GName}
use Rattle.desk_types.specs.declared.wire.Wire.{Wire}
use Rattle.desk_answers.specs.Counts.{none_served, CountsUpToOne}
use Rattle.desk_answers.specs.Sent.{SendsFront, CountsWrite}
use Rattle.desk_answers.specs.declared.serving.Served.{Served}
use Rattle.desk_answers.specs.declared.serving.ServeFault.{ServeFault}
use Rattle.desk_answers.specs.declared.serving.ServeFault.TheVariants.{Read, Write, TooManyReads}
use Rattle.http_stream.specs.Answers.{Told, unavailable, told_bad_head, told_head_too_large, told_length, is_refused, answer_bytes}
use Rattle.http_stream.specs.Cut.{Request, Portion, whole, bad_head, head_too_large, unread, starved, is_last, is_head, IsPortion, Leads, ReadsInside, IsCut}

-- ---- one portion

-- The answer to a request, and the state after it.
pub record Outcome (S : Type 0) : Type 0 where
  pub told : Told
  pub after : S

-- The outcome of each whole request in each state.
abbrev pub Rule : Type 0 → Type 0
Rule S = S → Request → Outcome S

-- The outcome of a whole request: the rule's or, if marked, Unavailable with the state unchanged.
abbrev pub request_outcome : {S : Type 0} → Rule S → Bool → S → Request → Outcome S
request_outcome rule true s r = record { told = unavailable; after = s }
request_outcome rule false s r = rule s r

-- The outcome of a portion; only a whole request changes the state.
abbrev pub outcome : {S : Type 0} → Rule S → Bool → S → Portion → Outcome S
outcome rule mark s (whole r ends) = request_outcome rule mark s r
outcome rule mark s bad_head = record { told = told_bad_head; after = s }
outcome rule mark s head_too_large = record { told = told_head_too_large; after = s }
outcome rule mark s (unread method fault) = record { told = told_length fault; after = s }
outcome rule mark s starved = record { told = unavailable; after = s }

-- Whether the answer has a body: answers to the method HEAD don't, if the method is known.
abbrev pub has_body : Portion → Bool
has_body (whole r ends) = not (is_head r.method)
has_body (unread method fault) = not (is_head method)
has_body bad_head = true
has_body head_too_large = true
has_body starved = true

-- The bytes of an answer, whether it counts as refused, and the state after it.
pub record Answer (S : Type 0) : Type 0 where
  pub bytes : List ℕ
  pub refused : Bool
  pub after : S

abbrev pub answer : {S : Type 0} → Rule S → Bool → S → Portion → Answer S
answer rule mark s p = record {
  bytes = answer_bytes (is_last p) (has_body p) (outcome rule mark s p).told;
  refused = is_refused (outcome rule mark s p).told.status;
  after = (outcome rule mark s p).after;
}

-- ---- several portions

-- A portion's mark is whether it was answered Unavailable after it was read.

-- The answers to the portions, each from the state before it.
abbrev pub answers : {S : Type 0} → Rule S → List Bool → S → List Portion → List (Answer S)
answers rule [] s ps = []
answers rule (m ∷ ms) s [] = []
answers rule (m ∷ ms) s (p ∷ ps) = answer rule m s p ∷ answers rule ms (answer rule m s p).after ps

-- The state after the portions.
abbrev pub state_after : {S : Type 0} → Rule S → List Bool → S → List Portion → S
state_after rule [] s ps = s
state_after rule (m ∷ ms) s [] = s
state_after rule (m ∷ ms) s (p ∷ ps) = state_after rule ms (answer rule m s p).after ps

-- ---- a run

-- The portions were answered according to their marks, with this output, state and counts.
pub record Answered {S : Type 0} (rule : Rule S) (ps : List Portion) (marks : List Bool)
    (s : S) (out : Option (List ℕ)) (before : Served) (s' : S) (out' : Option (List ℕ))
    (after : Served) : Type 0 where
  pub each : length marks ≡ length ps
  pub bytes : Appends out out' (flat_map (λ a. a.bytes) (answers rule marks s ps))
  pub state : s' ≡ state_after rule marks s ps
  pub answered : after.answered ≡ before.answered + length ps
  pub refused : after.refused ≡ before.refused + count_by
      (λ (a : Answer S). a.refused) (answers rule marks s ps)

-- All portions of the reader's bytes, if known, were answered.
abbrev pub AnsweredAll : {S : Type 0} → Rule S → Option (List ℕ) → S → Option (List ℕ) → S
    → Option (List ℕ) → Served → Type 0
AnsweredAll rule input s out s' out' served = (ps : List Portion) × (marks : List Bool)
    × IfSome input (λ bytes. IsCut bytes ps)
    × Answered rule ps marks s out none_served s' out' served

-- The first portions were answered, each whole, and nothing else was sent; the bytes read next are
-- no whole portion.
abbrev pub AnsweredFront : {S : Type 0} → Rule S → Option (List ℕ) → Option (List ℕ) → S
    → Option (List ℕ) → S → Option (List ℕ) → Served → Type 0
AnsweredFront rule input input' s out s' out' served = (ps : List Portion) × (marks : List Bool)
    × IfSome input (λ bytes. (left : List ℕ) × Leads bytes ps left × ReadsInside (Some left) input')
    × Answered rule ps marks s out none_served s' out' served

-- The first portions were answered, each whole, then the first bytes of one more answer were sent.
abbrev pub AnsweredInto : {S : Type 0} → Rule S → Option (List ℕ) → S → Option (List ℕ) → S
    → Option (List ℕ) → Served → Type 0
AnsweredInto {S = S} rule input s out s' out' served = (ps : List Portion) × (marks : List Bool)
    × (p : Portion) × (mark : Bool) × (s₁ : S) × (out₁ : Option (List ℕ))
    × IfSome input (λ bytes. (left : List ℕ) × (rest : List ℕ) × Leads bytes ps left
    × IsPortion left p rest) × Answered rule ps marks s out none_served s₁ out₁ served
    × (s' ≡ (answer rule mark s₁ p).after) × SendsFront out₁ out' (answer rule mark s₁ p).bytes

-- The answers before a fault: the first portions and, after a failed write, the first bytes of one
-- more answer.
abbrev pub AnsweredUpTo : {S : Type 0} → Rule S → Option (List ℕ) → Option (List ℕ) → S
    → Option (List ℕ) → S → Option (List ℕ) → ServeFault → Type 0
AnsweredUpTo rule input input' s out s' out' (Read served) =
    AnsweredFront rule input input' s out s' out' served
AnsweredUpTo rule input input' s out s' out' (TooManyReads served) =
    AnsweredFront rule input input' s out s' out' served
AnsweredUpTo rule input input' s out s' out' (Write served) =
    AnsweredInto rule input s out s' out' served

-- The answers to a connection, by how it ended: to all its portions, or those before the fault.
abbrev pub AnswersConnection : {S : Type 0} → Rule S → Option (List ℕ) → Option (List ℕ)
    → Option (List ℕ) → Option (List ℕ) → Result Served ServeFault → S → S → Type 0
AnswersConnection rule input input' out out' (Ok served) s s' =
    AnsweredAll rule input s out s' out' served
AnswersConnection rule input input' out out' (Err fault) s s' =
    AnsweredUpTo rule input input' s out s' out' fault

-- ---- a handler

-- The handler is ready again and holds the same borrow, and if its storage has not lied now, it had
-- not before.
pub record StaysLent {A : Type 0} (Ready Trusts : A → Type 0) (held : A → GName)
    (old new : A) : Type 0 where
  pub ready : Ready new
  pub trusts : Trusts new → Trusts old
  pub borrow : held new ≡ held old

-- If the handler's storage has not lied, then for each state represented before, it now represents
-- one that satisfies `Fact`.
abbrev pub ForStates : {A S : Type 0} → (A → S → Type 0) → (A → Type 0) → A → A
    → (S → S → Type 0) → Type 0
ForStates {S = S} Stands Trusts old new Fact = (s : S) → Stands old s → Trusts new
    → (s' : S) × Stands new s' × Fact s s'

-- The request has this answer, for some mark.
abbrev pub AnswersRequest : {S : Type 0} → Rule S → Request → S → Told → S → Type 0
AnswersRequest rule r s told s' = (mark : Bool) × (told ≡ (request_outcome rule mark s r).told)
    × (s' ≡ (request_outcome rule mark s r).after)

-- The portion has this answer, for some mark.
abbrev pub AnswersPortion : {S : Type 0} → Rule S → Portion → S → Told → S → Type 0
AnswersPortion rule p s told s' = (mark : Bool) × (told ≡ (outcome rule mark s p).told)
    × (s' ≡ (outcome rule mark s p).after)

-- The portions were answered.
abbrev pub Serves : {S : Type 0} → Rule S → List Portion → S → Option (List ℕ) → Served → S
    → Option (List ℕ) → Served → Type 0
Serves rule ps s out before s' out' after =
    (marks : List Bool) × Answered rule ps marks s out before s' out' after

-- Only the first bytes of the answer to the portion were sent.
abbrev pub Breaks : {S : Type 0} → Rule S → Portion → S → Option (List ℕ) → Served → S
    → Option (List ℕ) → Served → Type 0
Breaks rule p s out before s' out' after = (mark : Bool) × (after ≡ before)
    × (s' ≡ (answer rule mark s p).after) × SendsFront out out' (answer rule mark s p).bytes

-- The portion was answered: whole, or with only the first bytes of the answer.
abbrev pub SendsPortion : {A E S : Type 0} → Rule S → Portion → Option (List ℕ) → Served
    → Option (List ℕ) → Served → Result A E → S → S → Type 0
SendsPortion rule p out before out' after (Ok done) s s' =
    Serves rule (p ∷ []) s out before s' out' after
SendsPortion rule p out before out' after (Err fault) s s' =
    Breaks rule p s out before s' out' after

-- The result is whether the answer is the last, and the counts show whether it was sent whole.
pub record ShowsSent {E W : Type 0} (ends : Bool) (result : Result Bool E) (output output' : Wire W)
    (old new : Served) : Type 0 where
  pub last : IfOk result (λ last. last ≡ ends)
  pub writes : CountsWrite result output output'
  pub counts : CountsUpToOne old new
