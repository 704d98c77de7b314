-- Reading rows one after another.
use Rattle.desk_types.proofs.Common.{[], ◌++◌, ◌+◌, ◌<◌, ◌∙◌, ◌∷◌, ◌≡◌, ap, append_assoc, arith, drop, Err}
use Rattle.desk_types.proofs.Common.{get_or, length, length-map, length-take-le, List, map, map-append, Ok}
use Rattle.desk_types.proofs.Common.{refl, Result, suc, sym, take, take-append-drop, take_more, ℕ}
use Rattle.cfx_profile.proofs.Readings.{both, both-first, both-nothing, first_of_each}
use Rattle.imports.specs.{File.each, File.Record, File.row_at, declared.fault.ImportFault.ImportFault}

each-append : {X : Type 0} (reading : ℕ → Record → Result X ImportFault) (line : ℕ) (rs ss : List Record)
    → each reading line (rs ++ ss) ≡ both (each reading line rs) (each reading (line + length rs) ss)
unfolding first_of_each
each-append reading line [] ss =
    let next : line ≡ line + length {A = Record} [] = omega arith in
    both-nothing (each reading line ss) ∙ ap (λ n. both (Ok []) (each reading n ss)) next
each-append reading line (r ∷ rs) ss =
    let next : suc line + length rs ≡ line + length (r ∷ rs) = omega arith in
    ap (first_of_each (row_at reading line r)) (each-append reading (suc line) rs ss ∙ ap (λ n. both (each reading (suc line) rs) (each reading n ss)) next)
    ∙ both-first (row_at reading line r) (each reading (suc line) rs) _

before : {R : Type 0} (view : R → Record) (rs : List R) (i : ℕ) → i < length rs → length (map view (take i rs)) ≡ i
before view rs i inside = length-map (take i rs) view ∙ length-take-le i rs (omega arith)

pub each-more : {R X : Type 0} (view : R → Record) (reading : ℕ → Record → Result X ImportFault) (line : ℕ) (rs : List R) (i : ℕ) (r : R) (xs : List X) (x : X)
    → i < length rs → r ≡ get_or rs i r → each reading line (map view (take i rs)) ≡ Ok xs → row_at reading (line + i) (view r) ≡ Ok x
    → each reading line (map view (take (i + 1) rs)) ≡ Ok (xs ++ x ∷ [])
unfolding both
each-more view reading line rs i r xs x inside here rows row =
    rw (take_more rs i r inside, sym here, map-append view (take i rs) (r ∷ []), each-append reading line (map view (take i rs)) (view r ∷ []), rows, before view rs i inside, row) refl

pub each-fault : {R X : Type 0} (view : R → Record) (reading : ℕ → Record → Result X ImportFault) (line : ℕ) (rs : List R) (i : ℕ) (r : R) (xs : List X) (fault : ImportFault)
    → i < length rs → r ≡ get_or rs i r → each reading line (map view (take i rs)) ≡ Ok xs → row_at reading (line + i) (view r) ≡ Err fault
    → each reading line (map view rs) ≡ Err fault
unfolding both
each-fault view reading line rs i r xs fault inside here rows row =
    let whole : rs ≡ take i rs ++ r ∷ drop (i + 1) rs =
    sym (take-append-drop (i + 1) rs) ∙ ap (λ front. front ++ drop (i + 1) rs) (take_more rs i r inside ∙ ap (λ x. take i rs ++ x ∷ []) (sym here)) ∙ append_assoc (take i rs) (r ∷ []) (drop (i + 1) rs) in
    let parts = ap (map view) whole ∙ map-append view (take i rs) (r ∷ drop (i + 1) rs) in
    ap (each reading line) parts ∙ rw (each-append reading line (map view (take i rs)) (view r ∷ map view (drop (i + 1) rs)), rows, before view rs i inside, row) refl
