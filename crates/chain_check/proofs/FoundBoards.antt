-- The rows over a chain are its recall.
use Rattle.desk_types.proofs.Common.{[], ◌++◌, ◌||◌, ◌↔◌, ◌∙◌, ◌∷◌, ◌≡◌, Any, Any-from_list_any, ap}
use Rattle.desk_types.proofs.Common.{boards_of, Bool, Contains, get_or, History, length, List, list_any}
use Rattle.desk_types.proofs.Common.{list_any-append, list_any-from_Any, map, map-append, Name, None, or_comm, refl}
use Rattle.desk_types.proofs.Common.{same, sym, true, ℕ}
use Rattle.desk_laws.proofs.Common.{boards_over, DeskFile, IsChain, lots_over}
use Rattle.chain_check.specs.Rows.{first_field, name_row, names_of, pieces_of, rows_over}
use Rattle.chain_check.specs.declared.question.Question.TheVariants.{Names}
use Rattle.chain_check.specs.declared.question.Subject.{Subject}
use Rattle.chain_check.specs.declared.question.Subject.TheVariants.{Board, Lot}
use Rattle.desk_laws.proofs.ChainLots.{boards-union, lots-union}
use Rattle.desk_laws.proofs.Mounts.{from-has, has, has-from}

-- The names of a file, and those in the rows of all files.
abbrev pub names-in : Subject → DeskFile → List Name
names-in subject file = names_of subject (pieces_of subject file.whole)

abbrev pub names-over : Subject → List (List ℕ) → List DeskFile → List Name
names-over subject paths files = map first_field (rows_over (Names subject) paths files)

first-fields : (path : List ℕ) (names : List Name) → map first_field (map (name_row path) names) ≡ names
first-fields path [] = refl
first-fields path (name ∷ names) = ap (λ (ns : List Name). name ∷ ns) (first-fields path names)

pub has-over : (subject : Subject) (paths : List (List ℕ)) (files : List DeskFile) (name : Name) → has (names-over subject paths files) name ≡ list_any (λ (f : DeskFile). has (names-in subject f) name) files
has-over subject paths [] name = refl
has-over subject paths (file ∷ older) name =
    let path = get_or paths (length older) [] in
    let here = map (name_row path) (names-in subject file) in
    ap (λ (names : List Name). has names name) (map-append first_field (rows_over (Names subject) paths older) here ∙ ap (λ (names : List Name). names-over subject paths older ++ names) (first-fields path (names-in subject file)))
    ∙ list_any-append (λ n. same name n) (names-over subject paths older) (names-in subject file)
    ∙ ap (λ b. b || has (names-in subject file) name) (has-over subject paths older name)
    ∙ or_comm (list_any (λ (f : DeskFile). has (names-in subject f) name) older) (has (names-in subject file) name)

-- What some file names is in the rows.
over-rows : (subject : Subject) (paths : List (List ℕ)) (files : List DeskFile) (all : List Name) (name : Name)
    → Contains all name ↔ Any (λ (f : DeskFile). Contains (names-in subject f) name) files
    → Contains all name ↔ Contains (names-over subject paths files) name
over-rows subject paths files all name union = (
  λ there.
      let some = union.0 there in
      from-has (names-over subject paths files) name (
      has-over subject paths files name
      ∙ list_any-from_Any (λ (f : DeskFile). has (names-in subject f) name) files (some.0, some.1, some.2, some.3, has-from (names-in subject some.1) name some.4)),
  λ there.
      let some = Any-from_list_any (λ (f : DeskFile). has (names-in subject f) name) files (sym (has-over subject paths files name) ∙ has-from (names-over subject paths files) name there) in
      union.1 (some.0, some.1, some.2, some.3, from-has (names-in subject some.1) name some.4),
)

pub found-boards : (files : List DeskFile) (paths : List (List ℕ)) (lot board : Name) → IsChain files
    → Contains (boards_over files lot) board ↔ Contains (map first_field (rows_over (Names (Lot lot None)) paths files)) board
found-boards files paths lot board chain = over-rows (Lot lot None) paths files (boards_over files lot) board (boards-union files lot board chain)

pub found-lots : (files : List DeskFile) (paths : List (List ℕ)) (board lot : Name) → IsChain files
    → Contains (lots_over files board) lot ↔ Contains (map first_field (rows_over (Names (Board board)) paths files)) lot
found-lots files paths board lot chain = over-rows (Board board) paths files (lots_over files board) lot (lots-union files board lot chain)

-- ---- the begins don't matter

any-whole : (q : History → Bool) (files : List DeskFile) → list_any (λ (f : DeskFile). q f.whole) files ≡ list_any q (map (λ (f : DeskFile). f.whole) files)
any-whole q [] = refl
any-whole q (f ∷ files) = ap (λ b. q f.whole || b) (any-whole q files)

one-way : (files others : List DeskFile) (lot board : Name) → IsChain files → IsChain others
    → map (λ (f : DeskFile). f.whole) files ≡ map (λ (f : DeskFile). f.whole) others
    → Contains (boards_over files lot) board → Contains (boards_over others lot) board
one-way files others lot board chain chain' same there =
    let named : History → Bool = λ H. has (boards_of H lot) board in
    let some = (boards-union files lot board chain).0 there in
    let has_one : list_any (λ (f : DeskFile). named f.whole) files ≡ true = list_any-from_Any (λ (f : DeskFile). named f.whole) files (some.0, some.1, some.2, some.3, has-from (boards_of some.1.whole lot) board some.4) in
    let other = Any-from_list_any (λ (f : DeskFile). named f.whole) others (
    any-whole named others ∙ ap (list_any named) (sym same) ∙ sym (any-whole named files) ∙ has_one) in
    (boards-union others lot board chain').1 (other.0, other.1, other.2, other.3, from-has (boards_of other.1.whole lot) board other.4)

pub any-begin : (files others : List DeskFile) (lot board : Name) → IsChain files → IsChain others
    → map (λ (f : DeskFile). f.whole) files ≡ map (λ (f : DeskFile). f.whole) others
    → Contains (boards_over files lot) board ↔ Contains (boards_over others lot) board
any-begin files others lot board chain chain' same = (one-way files others lot board chain chain' same, one-way others files lot board chain' chain (sym same))
