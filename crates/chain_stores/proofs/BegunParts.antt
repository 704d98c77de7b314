-- The first entries of a history, and where its begin ends.
use Rattle.std.proofs.Common.{◌≡◌, ◌≢◌, ◌≤◌, ◌<◌, ◌⊎◌, ◌∙◌, ◌+◌, ℕ, Bool, true, false, Some, List, [], ◌∷◌, ◌++◌, length, length-append, refl, sym, ap, subst, arith, inl, inr, codes}
use Rattle.std.specs.Prelude.{◌||◌, decimal}
use Rattle.std.proofs.lemmas.Bool.{cases_lt}
use Rattle.std.proofs.lemmas.List.{append_cancel_right}
use Rattle.desk_types.specs.declared.command.Entry.{Entry}
use Rattle.desk_types.specs.declared.command.Stamped.{Stamped}
use Rattle.desk_types.specs.History.{History, IsPrefix}
use Rattle.chain_stores.specs.Begin.{BegunSoFar, EndsBegin, IsBegunWith, first_entry, has_work, starts_work}
use Rattle.chain_stores.proofs.FirstMessage.{EntryRead}

-- Of two first parts the shorter one is a first part of the longer.
nested : (l m : List Entry) (B C : History) → l ++ B ≡ m ++ C → length C ≤ length B → IsPrefix C B
nested [] m B C is short = (m, is)
nested (x ∷ l) [] B C is short =
    let long : length (l ++ B) ≡ length l + length B = length-append l B in
    let same : length (x ∷ l ++ B) ≡ length C = ap length is in
    absurd (omega (arith, long, same, short))
nested (x ∷ l) (y ∷ m) B C is short = let tails : l ++ B ≡ m ++ C = cc in nested l m B C tails short

prefix-in : (B C G : History) → IsPrefix B G → IsPrefix C G → length C ≤ length B → IsPrefix C B
prefix-in B C G b c short = nested b.0 c.0 B C (sym b.1 ∙ c.1) short

same-length : (B C : History) → IsPrefix C B → length B ≤ length C → B ≡ C
same-length B C ([], is) long = is
same-length B C (e ∷ later, is) long =
    let sum : length (later ++ C) ≡ length later + length C = length-append later C in
    let all : length B ≡ length (e ∷ later ++ C) = ap length is in
    absurd (omega (arith, sum, all, long))

idle-part : (later : List Entry) (C : History) → has_work (later ++ C) ≡ false → has_work C ≡ false
idle-part [] C idle = idle
idle-part (e ∷ later) C idle = idle-part later C (by (starts_work e.stamped.command) (has_work (later ++ C)) idle)
  where
    by : (a b : Bool) → (a || b) ≡ false → b ≡ false
    by true b is = absurd cc
    by false b is = is

first-same : (later : List Entry) (e : Entry) (B : History) → first_entry (later ++ e ∷ B) ≡ first_entry (e ∷ B)
first-same [] e B = refl
first-same (f ∷ []) e B = refl
first-same (f ∷ g ∷ later) e B = first-same (g ∷ later) e B

-- The first entry of the whole.
first-of : (G : History) (e : Entry) (B : History) → IsPrefix (e ∷ B) G → first_entry (e ∷ B) ≡ first_entry G
first-of G e B prefix = sym (ap first_entry prefix.1 ∙ first-same prefix.0 e B)

some-same : (e f : Entry) → Some e ≡ Some f → e ≡ f
some-same e f is = cc

-- No begin without a stem.
pub none-begun : (G : History) (first : Entry) → first_entry G ≡ Some first
    → ((stem : List ℕ) → first.stamped.uid ≢ stem ++ codes "1") → IsBegunWith G 0
none-begun G first is none = record { ends = inl refl; most = never }
  where
    never : (B : History) → IsPrefix B G → EndsBegin B → length B ≤ 0
    never [] prefix ends = absurd ends
    never (e ∷ B) prefix (f, at, (stem, named, _), _) =
        let same : f ≡ first = some-same f first (sym at ∙ first-of G e B prefix ∙ is) in
        absurd (none stem (ap (λ (x : Entry). x.stamped.uid) (sym same) ∙ named))

pub begun-none : (G : History) → 0 ≡ length G → IsBegunWith G 0
begun-none G none = record {
  ends = inl refl;
  most = λ B prefix _.
      let sum : length (prefix.0 ++ B) ≡ length prefix.0 + length B = length-append prefix.0 B in
      let all : length G ≡ length (prefix.0 ++ B) = ap length prefix.1 in
      omega (arith, sum, all, none);
}

pub so-far-none : (G : History) → IsPrefix [] G → BegunSoFar G 0 0
so-far-none G prefix = record {
  part = [];
  prefix = prefix;
  counted = refl;
  idle = refl;
  ends = inl refl;
  most = λ B _ short _. short;
}

-- All entries were looked at.
pub begun-all : (G : History) (at begun : ℕ) → at ≡ length G → BegunSoFar G at begun → IsBegunWith G begun
begun-all G at begun all it = record {
  ends = it.ends;
  most = λ B prefix ends.
      let sum : length (prefix.0 ++ B) ≡ length prefix.0 + length B = length-append prefix.0 B in
      let long : length G ≡ length (prefix.0 ++ B) = ap length prefix.1 in
      it.most B prefix (omega (arith, sum, long, all)) ends;
}

module _ (G : History) (at begun : ℕ) (it : BegunSoFar G at begun) (message : Stamped)
    (read : EntryRead it.part G message) where
  abbrev more : History
  more = read.entry ∷ it.part

  works : starts_work message.command ≡ starts_work read.entry.stamped.command
  works = ap starts_work read.command

  -- A longer first part has all of these.
  within : (B : History) → IsPrefix B G → at < length B → IsPrefix more B
  within B prefix long = prefix-in B more G prefix read.prefix (omega (arith, it.counted, long))

  -- Work stops the begin.
  pub begun-before-work : starts_work message.command ≡ true → IsBegunWith G begun
  begun-before-work work = record { ends = it.ends; most = λ B prefix ends. by B prefix ends (cases_lt at (length B)) }
    where
      idle-of : (B : History) → EndsBegin B → has_work B ≡ false
      idle-of [] ends = absurd ends
      idle-of (e ∷ B) ends = ends.3

      by : (B : History) → IsPrefix B G → EndsBegin B → (at < length B) ⊎ (length B ≤ at) → length B ≤ begun
      by B prefix ends (inr short) = it.most B prefix short ends
      by B prefix ends (inl long) =
          let part = within B prefix long in
          let idle : has_work more ≡ false = idle-part part.0 more (ap has_work (sym part.1) ∙ idle-of B ends) in
          absurd (starts (starts_work read.entry.stamped.command) (has_work it.part) (sym works ∙ work) idle)
        where
          starts : (a b : Bool) → a ≡ true → (a || b) ≡ false → ⊥
          starts a b on off = cc

  -- An entry that starts no work.
  module _ (first : Entry) (is : first_entry G ≡ Some first) (idle : starts_work message.command ≡ false) where
    idle-more : has_work more ≡ false
    idle-more = both (starts_work read.entry.stamped.command) (has_work it.part) (sym works ∙ idle) it.idle
      where
        both : (a b : Bool) → a ≡ false → b ≡ false → (a || b) ≡ false
        both a b off none = cc

    counted-more : length more ≡ at + 1
    counted-more = omega (arith, it.counted)

    ends-more : (stem : List ℕ) → first.stamped.uid ≡ stem ++ codes "1" → message.uid ≡ stem ++ decimal (at + 1)
        → EndsBegin more
    ends-more stem named own = (
      first,
      first-of G read.entry it.part read.prefix ∙ is,
      (stem, named, sym read.uid ∙ own ∙ ap (λ n. stem ++ decimal n) (sym counted-more)),
      idle-more,
    )

    -- It has its number in the begin.
    pub begun-more : (stem : List ℕ) → first.stamped.uid ≡ stem ++ codes "1" → message.uid ≡ stem ++ decimal (at + 1)
        → BegunSoFar G (at + 1) (at + 1)
    begun-more stem named own = record {
      part = more;
      prefix = read.prefix;
      counted = counted-more;
      idle = idle-more;
      ends = inr (more, read.prefix, counted-more, ends-more stem named own);
      most = λ B _ short _. short;
    }

    -- It hasn't.
    not-ended : (stem : List ℕ) → first.stamped.uid ≡ stem ++ codes "1" → message.uid ≢ stem ++ decimal (at + 1)
        → EndsBegin more → ⊥
    not-ended stem named other (f, its, (stem', named', own), _) =
        let same : f ≡ first = some-same f first (sym its ∙ first-of G read.entry it.part read.prefix ∙ is) in
        let stems : stem' ≡ stem =
        append_cancel_right stem' stem (codes "1") (sym named' ∙ ap (λ (x : Entry). x.stamped.uid) same ∙ named) in
        other (read.uid ∙ own ∙ ap (λ n. stem' ++ decimal n) counted-more ∙ ap (λ (l : List ℕ). l ++ decimal (at + 1)) stems)

    pub begun-same : (stem : List ℕ) → first.stamped.uid ≡ stem ++ codes "1" → message.uid ≢ stem ++ decimal (at + 1)
        → BegunSoFar G (at + 1) begun
    begun-same stem named other = record {
      part = more;
      prefix = read.prefix;
      counted = counted-more;
      idle = idle-more;
      ends = it.ends;
      most = λ B prefix short ends. by B prefix short ends (cases_lt at (length B));
    }
      where
        by : (B : History) → IsPrefix B G → length B ≤ at + 1 → EndsBegin B → (at < length B) ⊎ (length B ≤ at)
            → length B ≤ begun
        by B prefix short ends (inr low) = it.most B prefix low ends
        by B prefix short ends (inl long) =
            let same : B ≡ more = same-length B more (within B prefix long) (omega (arith, counted-more, short)) in
            absurd (not-ended stem named other (subst EndsBegin same ends))
