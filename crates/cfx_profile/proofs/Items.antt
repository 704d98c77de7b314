-- Lists of items.
use Rattle.desk_types.proofs.Common.{[], ◌++◌, ◌∙◌, ◌∷◌, ◌≡◌, ap, Err, length, List, Ok, refl, Result, Some}
use Rattle.desk_types.proofs.Common.{suc, sym, ℕ}
use Rattle.cfx_profile.proofs.Readings.{both, both-first, both-nothing, first_of_each}
use Rattle.cfx_profile.specs.{Lists.each, Lists.items_in, Lists.items_list, Lists.some_items}
use Rattle.cfx_profile.specs.{Member.member_text, declared.fault.MessageFault.MessageFault}
use Rattle.cfx_profile.specs.{declared.member.Member.Member}
use Rattle.serde_json.specs.{Data.Data, Find.as_array, Find.get, View.items_of}
use Rattle.std.proofs.Common.{option_and_then}

pub items_list-of : (ds : List Data) → items_list (items_of ds) ≡ ds
items_list-of [] = refl
items_list-of (d ∷ ds) = ap (λ r. d ∷ r) (items_list-of ds)

pub items_in-of : (m : Member) (body : Data) (ds : List Data)
    → option_and_then as_array (get (member_text m) body) ≡ Some (items_of ds) → items_in m body ≡ some_items m ds
unfolding items_in
items_in-of m body ds is = rw (is, items_list-of ds) refl

each-append : {X : Type 0} (reading : Data → Result X MessageFault) (ds es : List Data)
    → each reading (ds ++ es) ≡ both (each reading ds) (each reading es)
unfolding first_of_each
each-append reading [] es = both-nothing (each reading es)
each-append reading (d ∷ ds) es = ap (first_of_each (reading d)) (each-append reading ds es) ∙ both-first (reading d) (each reading ds) (each reading es)

pub each-more : {X : Type 0} (reading : Data → Result X MessageFault) (ds : List Data) (d : Data) (xs : List X) (x : X)
    → each reading ds ≡ Ok xs → reading d ≡ Ok x → each reading (ds ++ d ∷ []) ≡ Ok (xs ++ x ∷ [])
unfolding both
each-more reading ds d xs x before here = rw (each-append reading ds (d ∷ []), before, here) refl

pub each-fault : {X : Type 0} (reading : Data → Result X MessageFault) (ds : List Data) (d : Data) (later : List Data) (xs : List X) (fault : MessageFault)
    → each reading ds ≡ Ok xs → reading d ≡ Err fault → each reading (ds ++ d ∷ later) ≡ Err fault
unfolding both
each-fault reading ds d later xs fault before here = rw (each-append reading ds (d ∷ later), before, here) refl

length-first : {X : Type 0} (first : Result X MessageFault) (rest : Result (List X) MessageFault) (xs : List X) (n : ℕ)
    → first_of_each first rest ≡ Ok xs → ((ys : List X) → rest ≡ Ok ys → length ys ≡ n) → length xs ≡ suc n
unfolding first_of_each
length-first (Err fault) rest xs n is count = cc
length-first (Ok x) (Err fault) xs n is count = cc
length-first (Ok x) (Ok ys) xs n is count =
    let whole : x ∷ ys ≡ xs = cc in
    ap length (sym whole) ∙ ap suc (count ys refl)

pub length-each : {X : Type 0} (reading : Data → Result X MessageFault) (ds : List Data) (xs : List X)
    → each reading ds ≡ Ok xs → length xs ≡ length ds
unfolding first_of_each
length-each reading [] xs is = cc
length-each reading (d ∷ ds) xs is = length-first (reading d) (each reading ds) xs (length ds) is (length-each reading ds)
