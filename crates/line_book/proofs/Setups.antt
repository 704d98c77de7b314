-- How the causes of a setup are found, and what the holds are.
use Rattle.desk_types.proofs.Common.{[], ◌++◌, ◌<◌, ◌∙◌, ◌∷◌, ◌≡◌, ◌≤◌, ap, append-nil, append_assoc, arith, BTreeMap}
use Rattle.desk_types.proofs.Common.{by_name, cond, desk_minute, flat_map, flat_map-append, front_at, front_of, get_or}
use Rattle.desk_types.proofs.Common.{History, is_at, IsJudged, length, List, map, Name, name-written, None, now_of}
use Rattle.desk_types.proofs.Common.{Option, option_map, option_or, option_to_list, refl, Some, sym, unwrap_or, ℕ}
use Rattle.desk_laws.proofs.Common.{Refusal, SheetRow, Two}
use Rattle.desk_types.specs.declared.front.Front.{Front}
use Rattle.desk_types.specs.declared.front.FrontReel.{FrontReel}
use Rattle.desk_types.specs.Front.{front_reel, fronts_of}
use Rattle.desk_types.specs.Refusals.{front_refusal}
use Rattle.desk_types.specs.Setup.{sheet_on}
use Rattle.setup_sheets.proofs.VerifiedStarts.{first-told, refusal_in}
use Rattle.setup_sheets.specs.Alternates.{AreAlternates}
use Rattle.setup_sheets.specs.Verification.{front_fault}
use Rattle.line_book.specs.declared.cause.Cause.{Cause}
use Rattle.line_book.specs.declared.cause.Cause.TheVariants.{AtSlot}
use Rattle.line_book.specs.Book.{Book}
use Rattle.line_book.specs.declared.holds.Holds.{Holds}
use Rattle.line_book.specs.declared.note.Stock.{Stock}
use Rattle.line_book.specs.declared.note.Stock.TheVariants.{Lot, Reel}
use Rattle.line_book.specs.Causes.{held_causes, slot_causes}
use Rattle.line_book.specs.Holds.{same_stock}
use Rattle.line_book.specs.Setup.{hold_at}
use Rattle.std.proofs.lemmas.List.{get_or-map}
use Rattle.std.specs.BTreeMap as tree

pub two-appended : {X : Type 0} (old mid new a b : List X) → mid ≡ old ++ a → new ≡ mid ++ b → new ≡ old ++ (a ++ b)
two-appended old mid new a b first second = second ∙ ap (λ l. l ++ b) first ∙ append_assoc old a b

pub mapped-at : {X Y : Type 0} (f : X → Y) (xs : List X) (ys : List Y) (i : ℕ) (x : X) (y : Y) → i < length xs
    → ys ≡ map f xs
    → x ≡ get_or xs i x → y ≡ get_or ys i y → y ≡ f x
mapped-at f xs ys i x y lt is x_is y_is =
    y_is ∙ ap (λ l. get_or l i y) is ∙ get_or-map f xs i x y lt ∙ ap f (sym x_is)

pub slots-step : (causes_of : SheetRow → List Cause) (before after : List SheetRow) (row : SheetRow)
    (old found new : List Cause)
    → after ≡ before ++ row ∷ [] → found ≡ old ++ flat_map causes_of before → new ≡ found ++ causes_of row
    → new ≡ old ++ flat_map causes_of after
slots-step causes_of before after row old found new longer was is =
    two-appended old found new (flat_map causes_of before) (causes_of row) was is
    ∙ ap (λ l. old ++ l) (sym (ap (flat_map causes_of) longer ∙ flat_map-append causes_of before (row ∷ [])
    ∙ ap (λ l. flat_map causes_of before ++ l) (append-nil (causes_of row))))

pub fronts-told : (H : History) (machine : Name) (rows : List SheetRow) (fronts : List Front)
    → sheet_on H machine ≡ Some rows
    → fronts ≡ fronts_of H machine → fronts ≡ map (front_at H (now_of H) machine) rows
fronts-told H machine rows fronts on is = is ∙ ap (λ s. map (front_at H (now_of H) machine) (unwrap_or s [])) on

pub no-minute : (H : History) (machine : Name) (rows : List SheetRow) → desk_minute H ≡ None
    → sheet_on H machine ≡ Some rows → ⊥
no-minute [] machine rows none some = cc
no-minute (e ∷ H) machine rows none some = cc

-- ---- holds

pub reel-written : (old : Holds) (reels : BTreeMap Name ℕ) (k : Name) (w : Option ℕ) (stock : Stock) → stock ≡ Reel k
    → ((q : Name) → tree.get by_name reels q ≡ cond (is_at (by_name k) q) w (tree.get by_name old.reels q))
    → (s : Stock) → hold_at (record old { reels = reels }) s ≡ cond (same_stock stock s) w (hold_at old s)
reel-written old reels k w stock is after (Reel q) =
    name-written (tree.get by_name old.reels) (tree.get by_name reels) k w (λ o. o) after q
    ∙ ap (λ x. cond (same_stock x (Reel q)) w (hold_at old (Reel q))) (sym is)
reel-written old reels k w stock is after (Lot q) = ap
    (λ x. cond (same_stock x (Lot q)) w (hold_at old (Lot q))) (sym is)

pub lot-written : (old : Holds) (lots : BTreeMap Name ℕ) (k : Name) (w : Option ℕ) (stock : Stock) → stock ≡ Lot k
    → ((q : Name) → tree.get by_name lots q ≡ cond (is_at (by_name k) q) w (tree.get by_name old.lots q))
    → (s : Stock) → hold_at (record old { lots = lots }) s ≡ cond (same_stock stock s) w (hold_at old s)
lot-written old lots k w stock is after (Lot q) =
    name-written (tree.get by_name old.lots) (tree.get by_name lots) k w (λ o. o) after q
    ∙ ap (λ x. cond (same_stock x (Lot q)) w (hold_at old (Lot q))) (sym is)
lot-written old lots k w stock is after (Reel q) = ap
    (λ x. cond (same_stock x (Reel q)) w (hold_at old (Reel q))) (sym is)

-- ---- a slot

one-in : (slot : Name) (o : Option Refusal) → refusal_in (option_or (option_map (λ r. (slot, r)) o) None) ≡ o
one-in slot None = refl
one-in slot (Some refusal) = refl

or-none-right : (o : Option Refusal) → option_or o None ≡ o
or-none-right None = refl
or-none-right (Some refusal) = refl

front-told : (H : History) (machine : Name) (row : SheetRow) (alternates : List (Name × Name)) (minute : ℕ)
    → IsJudged Two H → now_of H ≤ minute → AreAlternates H alternates
    → front_fault alternates minute row (option_map (front_reel H (now_of H)) (front_of H machine row.slot))
    ≡ front_refusal H minute row (front_of H machine row.slot)
front-told H machine row alternates minute judged le are =
    sym (one-in row.slot (front_fault alternates minute row (option_map (front_reel H (now_of H))
    (front_of H machine row.slot))))
    ∙ first-told H alternates minute machine (row ∷ []) judged le are
    ∙ or-none-right (front_refusal H minute row (front_of H machine row.slot))

reel-told : (H : History) (minute : ℕ) (o : Option Name)
    → option_map (λ (r : FrontReel). r.reel) (option_map (front_reel H minute) o) ≡ o
reel-told H minute None = refl
reel-told H minute (Some reel) = refl

pub slot-told : (H : History) (B : Book) (machine : Name) (row : SheetRow) (front : Front) (alternates : List (Name
    × Name))
    (minute : ℕ) → IsJudged Two H → AreAlternates H alternates → desk_minute H ≡ Some minute
    → front ≡ front_at H (now_of H) machine row
    → (reel : Option Name) → reel ≡ option_map (λ (r : FrontReel). r.reel) front.reel
    → (fault : Option Refusal) → fault ≡ front_fault alternates minute row front.reel
    → option_to_list (option_map (AtSlot row.slot reel) fault) ++ held_causes H B row.slot reel
    ≡ slot_causes H B machine row
slot-told H B machine row front alternates minute judged are at is reel reel_is fault fault_is =
    ap (λ x. option_to_list (option_map (AtSlot row.slot x) fault) ++ held_causes H B row.slot x) the_reel
    ∙ ap (λ y. option_to_list (option_map (AtSlot row.slot (front_of H machine row.slot)) y)
    ++ held_causes H B row.slot (front_of H machine row.slot)) the_fault
  where
    now : now_of H ≡ minute
    now = ap (λ m. unwrap_or m 0) at

    the_reel : reel ≡ front_of H machine row.slot
    the_reel = reel_is ∙ ap (λ (f : Front). option_map (λ (r : FrontReel). r.reel) f.reel) is
        ∙ reel-told H (now_of H) (front_of H machine row.slot)

    the_fault : fault ≡ front_refusal H (now_of H) row (front_of H machine row.slot)
    the_fault = fault_is ∙ ap (λ (f : Front). front_fault alternates minute row f.reel) is
        ∙ front-told H machine row alternates minute judged (omega (arith, now)) are
        ∙ ap (λ m. front_refusal H m row (front_of H machine row.slot)) (sym now)
