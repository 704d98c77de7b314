-- A stream without its repeats.
use Rattle.std.specs.Prelude.{◌≡◌, ◌⊎◌, ℕ, Bool, true, false, List, [], ◌∷◌, ◌++◌, if◌then◌else◌}
use Rattle.http_stream.specs.Cut.{Request, Portion, whole, bad_head, head_too_large, unread, starved, is_last, IsPortion, EndsInside}
use Rattle.http_stream.specs.Stream.{Rule, outcome, state_after}

-- Whether a request is a repeat in each state.
abbrev pub Repeats : Type 0 → Type 0
Repeats S = S → Request → Bool

-- Under the rule, a repeat leaves the state unchanged.
abbrev pub LeavesState : {S : Type 0} → Rule S → Repeats S → Type 0
LeavesState {S = S} rule again = (s : S) (r : Request) → again s r ≡ true → (rule s r).after ≡ s

-- Whether the portion is a repeat.
abbrev pub is_repeat : {S : Type 0} → Repeats S → S → Portion → Bool
is_repeat again s (whole r ends) = again s r
is_repeat again s bad_head = false
is_repeat again s head_too_large = false
is_repeat again s (unread method fault) = false
is_repeat again s starved = false

-- The state after an unmarked portion.
abbrev pub after_portion : {S : Type 0} → Rule S → S → Portion → S
after_portion rule s p = (outcome rule false s p).after

-- The portions except repeats, each judged by the state before it.
abbrev pub without_repeats : {S : Type 0} → Rule S → Repeats S → S → List Portion → List Portion
without_repeats rule again s [] = []
without_repeats rule again s (p ∷ ps) =
    if is_repeat again s p then without_repeats rule again (after_portion rule s p) ps
    else p ∷ without_repeats rule again (after_portion rule s p) ps

-- No portion is marked.
abbrev pub no_marks : List Portion → List Bool
no_marks [] = []
no_marks (p ∷ ps) = false ∷ no_marks ps

-- The state after unmarked portions.
abbrev pub after_all : {S : Type 0} → Rule S → S → List Portion → S
after_all rule s ps = state_after rule (no_marks ps) s ps

-- No repeat ends its connection.
abbrev pub NoRepeatEnds : {S : Type 0} → Rule S → Repeats S → S → List Portion → Type 0
NoRepeatEnds rule again s [] = Unit {0}
NoRepeatEnds rule again s (p ∷ ps) = (is_repeat again s p ≡ true → is_last p ≡ false)
    × NoRepeatEnds rule again (after_portion rule s p) ps

-- The stream is cut into these portions, no repeat ends its connection, and `fewer` is the stream
-- without the bytes of repeats.
abbrev pub IsCutWithout : {S : Type 0} → Rule S → Repeats S → S → List ℕ → List Portion → List ℕ
    → Type 0
IsCutWithout rule again s input [] fewer = EndsInside input × (fewer ≡ input)
IsCutWithout rule again s input (p ∷ ps) fewer = (rest : List ℕ) × IsPortion input p rest × (
    ((is_last p ≡ true) × (is_repeat again s p ≡ false) × (ps ≡ []) × (fewer ≡ input))
    ⊎ ((is_last p ≡ false) × (bytes : List ℕ) × (input ≡ bytes ++ rest) × (
    ((is_repeat again s p ≡ true) × IsCutWithout rule again (after_portion rule s p) rest ps fewer)
    ⊎ ((is_repeat again s p ≡ false) × (left : List ℕ) × (fewer ≡ bytes ++ left)
    × IsCutWithout rule again (after_portion rule s p) rest ps left))))
