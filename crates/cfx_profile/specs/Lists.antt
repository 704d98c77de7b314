-- Lists in a body: first the kind is checked, then emptiness, then length, then the elements in
-- order.
use Rattle.std.specs.Prelude.{nat_le, ◌==◌, if◌then◌else◌, option_map, option_and_then, ok_or, Result, Ok, Err, List, [], ◌∷◌, length}
use Rattle.serde_json.specs.Data.{Data, Items, no_items, item}
use Rattle.serde_json.specs.Find.{get, as_array, as_object}
use Rattle.desk_types.specs.declared.limits.TheConstants.{LONGEST_LIST}
use Rattle.cfx_profile.specs.declared.fault.MessageFault.{MessageFault}
use Rattle.cfx_profile.specs.declared.fault.MessageFault.TheVariants.{BodyMember, OverLimit}
use Rattle.cfx_profile.specs.declared.member.Member.{Member}
use Rattle.cfx_profile.specs.Fault.{◌>>=◌}
use Rattle.cfx_profile.specs.Member.{member_text}

-- The items of a JSON array, in order.
abbrev pub items_list : Items → List Data
items_list no_items = []
items_list (item d ds) = d ∷ items_list ds

-- 1 to 5,000 items.
abbrev pub some_items : Member → List Data → Result (List Data) MessageFault
some_items m ds = if length ds == 0 then Err (BodyMember m)
    else (if nat_le (length ds) LONGEST_LIST then Ok ds else Err (OverLimit m))

-- The member's items, if it is a list of 1 to 5,000.
unfoldable pub items_in : Member → Data → Result (List Data) MessageFault
items_in m body = ok_or (option_map items_list
    (option_and_then as_array (get (member_text m) body))) (BodyMember m) >>= some_items m

-- Each item's value in order, or the first fault.
abbrev pub each : {X : Type 0} → (Data → Result X MessageFault) → List Data
    → Result (List X) MessageFault
each reading [] = Ok []
each reading (d ∷ ds) = do
  x ← reading d
  xs ← each reading ds
  Ok (x ∷ xs)

-- The member's value as a list.
unfoldable pub list_in : {X : Type 0} → (Data → Result X MessageFault) → Member → Data
    → Result (List X) MessageFault
list_in reading m body = do
  ds ← items_in m body
  each reading ds

-- An item of a list of rows: an object, or else the list is at fault.
unfoldable pub row_in : Member → Data → Result Data MessageFault
row_in m d = ok_or (option_map (λ _. d) (as_object d)) (BodyMember m)
