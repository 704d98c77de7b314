-- The meaning of a command line.
use Rattle.std.specs.Prelude.{◌≡◌, ◌≢◌, ◌⊎◌, ⊤, ℕ, Bool, true, false, Option, Some, None, List, [], ◌∷◌, ◌++◌, IfSome, map, codes, string_bytes}
use Rattle.desk_types.specs.Id.{IsId}
use Rattle.chain_files.specs.declared.marks.Links.{Links}
use Rattle.chain_files.specs.declared.words.Asked.{Asked}
use Rattle.chain_files.specs.declared.words.Asked.TheVariants.{Chain, Names, Pieces}
use Rattle.chain_files.specs.declared.words.ChainCommand.{ChainCommand}
use Rattle.chain_files.specs.declared.words.ChainCommand.TheVariants.{Recall, Alike, Help, Version, Bad}
use Rattle.chain_files.specs.declared.words.Chosen.{Chosen}
use Rattle.chain_files.specs.declared.words.Kind.{Kind}
use Rattle.chain_files.specs.declared.words.Kind.TheVariants as kind
use Rattle.chain_files.specs.declared.words.Whose.{Whose}
use Rattle.chain_files.specs.declared.words.Whose.TheVariants.{Lot, Board, Reel, Listed}

-- ---- files and options

-- The word begins with this text.
abbrev pub Begins : List ℕ → List ℕ → Type 0
Begins text word = (rest : List ℕ) × (word ≡ text ++ rest)

-- None of the words looks like an option.
abbrev pub ArePlain : List (List ℕ) → Type 0
ArePlain [] = ⊤
ArePlain (word ∷ words) = ¬ Begins (codes "-") word × ArePlain words

-- The words name these files, at least one. One that looks like an option comes behind `--`.
abbrev pub NameFiles : List (List ℕ) → List (List ℕ) → Type 0
NameFiles words paths = (paths ≢ [])
    × ((words ≡ codes "--" ∷ paths) ⊎ ((words ≡ paths) × ArePlain paths))

-- An option that may be left out.
abbrev pub flag_words : List ℕ → Bool → List (List ℕ)
flag_words option true = option ∷ []
flag_words option false = []

-- The options on the first UniqueIDs of the files.
abbrev pub link_words : Links → List (List ℕ)
link_words links = flag_words (codes "--from-middle") links.from_middle
    ++ flag_words (codes "--without-marks") links.without_marks

-- The words don't begin with this one.
abbrev pub NotFirst : List ℕ → List (List ℕ) → Type 0
NotFirst word words = (rest : List (List ℕ)) → words ≢ word ∷ rest

-- They don't begin with an option.
pub record AreBehind (words : List (List ℕ)) : Type 0 where
  pub no_part : NotFirst (codes "--part") words
  pub no_pieces : NotFirst (codes "--pieces") words
  pub no_middle : NotFirst (codes "--from-middle") words
  pub no_marks : NotFirst (codes "--without-marks") words

-- ---- what comes behind the verb

-- Options, and files.
abbrev pub HasFiles : List (List ℕ) → Links → List (List ℕ) → Type 0
HasFiles words links paths = (rest : List (List ℕ))
    × (words ≡ link_words links ++ rest) × NameFiles rest paths

-- A name that doesn't look like an option.
abbrev pub IsPart : List ℕ → Type 0
IsPart part = IsId part × ¬ Begins (codes "--") part

-- The option for a part.
abbrev pub part_words : Option (List ℕ) → List (List ℕ)
part_words None = []
part_words (Some part) = codes "--part" ∷ part ∷ []

-- The words don't begin with it.
abbrev pub HasNoPart : List (List ℕ) → Type 0
HasNoPart words = (part : List ℕ) (rest : List (List ℕ)) → IsPart part
    → words ≢ codes "--part" ∷ part ∷ rest

-- The options of a question about pieces, and then these words.
abbrev pub HasOptions : List (List ℕ) → Chosen → List (List ℕ) → Type 0
HasOptions words chosen rest = IfSome chosen.part IsPart × (words ≡ part_words chosen.part
    ++ (flag_words (codes "--pieces") chosen.with_pieces ++ (link_words chosen.links ++ rest)))

-- The word behind the verb says this, and the option this part.
abbrev pub IsSaid : Whose → List ℕ → Option (List ℕ) → Type 0
IsSaid (Lot lot part) word said = IsId word × (lot ≡ word) × (part ≡ said)
IsSaid (Board board) word said = IsId word × (board ≡ word) × (said ≡ None)
IsSaid (Reel reel) word said = IsId word × (reel ≡ word) × (said ≡ None)
IsSaid Listed word said = said ≡ None

-- A word that doesn't look like an option, then options and files.
abbrev pub IsNamedFirst : List (List ℕ) → Whose → List ℕ → Chosen → List (List ℕ) → Type 0
IsNamedFirst words whose word chosen paths = IsSaid whose word chosen.part
    × (¬ Begins (codes "--") word) × (rest : List (List ℕ)) × (words ≡ word ∷ rest)
    × (files : List (List ℕ)) × HasOptions rest chosen files × NameFiles files paths

-- Options, then `--`, any word, and files.
abbrev pub IsNamedLast : List (List ℕ) → Whose → List ℕ → Chosen → List (List ℕ) → Type 0
IsNamedLast words whose word chosen paths = IsSaid whose word chosen.part
    × (paths ≢ []) × HasOptions words chosen (codes "--" ∷ word ∷ paths)

-- What is looked for, the word behind the verb, the options and the files.
abbrev pub HasName : List (List ℕ) → Whose → List ℕ → Chosen → List (List ℕ) → Type 0
HasName words whose word chosen paths =
    IsNamedFirst words whose word chosen paths ⊎ IsNamedLast words whose word chosen paths

-- ---- the whole

abbrev pub kind_of : Whose → Kind
kind_of (Lot lot part) = kind.Lot
kind_of (Board board) = kind.Board
kind_of (Reel reel) = kind.Reel
kind_of Listed = kind.Reels

abbrev pub kind_word : Kind → List ℕ
kind_word kind.Lot = codes "lot"
kind_word kind.Board = codes "board"
kind_word kind.Reel = codes "reel"
kind_word kind.Reels = codes "reels"

-- The words ask for the pieces of these, with these options.
abbrev pub AsksAbout : List (List ℕ) → Whose → List ℕ → Chosen → List (List ℕ) → Type 0
AsksAbout words whose word chosen paths = (rest : List (List ℕ))
    × (words ≡ kind_word (kind_of whose) ∷ rest) × HasName rest whose word chosen paths

-- The words ask this of these files. The first of them behind the verb is a name, or the path of a list.
abbrev pub AsksOf : List (List ℕ) → Asked → List ℕ → Links → List (List ℕ) → Type 0
AsksOf words Chain word links paths = (word ≡ [])
    × (rest : List (List ℕ)) × (words ≡ codes "check" ∷ rest) × HasFiles rest links paths
AsksOf words (Names whose) word links paths = (part : Option (List ℕ)) × AsksAbout words whose word
    (record { part = part; with_pieces = false; links = links }) paths
AsksOf words (Pieces whose) word links paths = (part : Option (List ℕ)) × AsksAbout words whose word
    (record { part = part; with_pieces = true; links = links }) paths

-- The words ask to compare these two.
abbrev pub AsksToCompare : List (List ℕ) → List ℕ → List ℕ → Type 0
AsksToCompare words old new =
    (rest : List (List ℕ)) × (words ≡ codes "alike" ∷ rest) × NameFiles rest (old ∷ new ∷ [])

-- The words ask for help or the version.
abbrev pub AsksForHelp : List (List ℕ) → Type 0
AsksForHelp words = (rest : List (List ℕ)) × (words ≡ codes "--help" ∷ rest)

abbrev pub AsksForVersion : List (List ℕ) → Type 0
AsksForVersion words = (rest : List (List ℕ)) × (words ≡ codes "--version" ∷ rest)

-- The words have this meaning.
abbrev pub Means : List (List ℕ) → ChainCommand → Type 0
Means words (Recall asked word links files) =
    AsksOf words asked word.now links (map string_bytes files.now)
Means words (Alike old new) = AsksToCompare words old.now new.now
Means words Help = AsksForHelp words
Means words Version = AsksForVersion words
Means words Bad = ⊥

-- The words have no meaning.
abbrev pub MeanNothing : List (List ℕ) → Type 0
MeanNothing words = ((asked : Asked) (word : List ℕ) (links : Links) (paths : List (List ℕ))
    → ¬ AsksOf words asked word links paths)
    × ((old : List ℕ) (new : List ℕ) → ¬ AsksToCompare words old new)
    × (¬ AsksForHelp words) × (¬ AsksForVersion words)

-- A command line is mistaken exactly if the words have no meaning.
abbrev pub Asks : List (List ℕ) → ChainCommand → Type 0
Asks words Bad = MeanNothing words
Asks words command = Means words command
