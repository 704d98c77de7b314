-- The index after adding an element or reserving memory.
use Rattle.desk_types.proofs.Common.{[], ◌++◌, ◌∙◌, ◌∷◌, ◌≡◌, All, All-same, ap, append-nil, Bool, cond}
use Rattle.desk_types.proofs.Common.{false, History, if◌then◌else◌, IsMinute, length, List, map, Name, refl}
use Rattle.desk_types.proofs.Common.{same, same-true, sym, true}
use Rattle.state_rows.specs.Lists.{HasPieces, IsListed, kept_at, key_of, keys_of_installs, minute_in}
use Rattle.state_rows.specs.declared.lists.TraceLists.{TraceLists}
use Rattle.std.proofs.lemmas.List.Elements.{All-push}

pub one-more : {X : Type 0} (k n : Name) (old : Name → List X) (now : List X) (thing : X) → now ≡ old k ++ thing ∷ []
    → cond (same k n) now (old n) ≡ old n ++ (if same k n then thing ∷ [] else [])
one-more k n old now thing is = by (same k n) refl
  where
    by : (b : Bool) → same k n ≡ b → cond b now (old n) ≡ old n ++ (if b then thing ∷ [] else [])
    by true one = is ∙ ap (λ name. old name ++ thing ∷ []) (same-true k n one)
    by false one = sym (append-nil (old n))

pub no-more : {X : Type 0} (k n : Name) (old : Name → List X) (now : List X) → now ≡ old k → cond (same k n) now (old n) ≡ old n
no-more k n old now is = by (same k n) refl
  where
    by : (b : Bool) → same k n ≡ b → cond b now (old n) ≡ old n
    by true one = is ∙ ap old (same-true k n one)
    by false one = refl

pub all-kept : {X : Type 0} (P : X → Type 0) (old now : List X) (thing : X) (there : Bool) → now ≡ old ++ (if there then thing ∷ [] else []) → P thing → All P old → All P now
all-kept P old now thing true is one all = All-same P now (old ++ thing ∷ []) is (All-push P old thing all one)
all-kept P old now thing false is one all = All-same P now old (is ∙ append-nil old) all

pub listed-still : (old new : TraceLists) (H : History) → ((n : Name) → kept_at new.lots n ≡ kept_at old.lots n) → ((n : Name) → kept_at new.boards n ≡ kept_at old.boards n)
    → new.overdue.items ≡ old.overdue.items → new.minutes.items ≡ old.minutes.items → IsListed old H → IsListed new H
listed-still old new H lots boards overdue minutes is = record {
  lots = λ lot. ap (map key_of) (lots lot) ∙ is.lots lot;
  boards = λ board. ap keys_of_installs (boards board) ∙ is.boards board;
  installs = λ board. All-same HasPieces _ _ (boards board) (is.installs board);
  overdue = ap (map key_of) overdue ∙ is.overdue;
  minutes = λ number. ap (λ ms. minute_in ms number) minutes ∙ is.minutes number;
  count = ap length minutes ∙ is.count;
  in_range = All-same IsMinute new.minutes.items old.minutes.items minutes is.in_range;
}
