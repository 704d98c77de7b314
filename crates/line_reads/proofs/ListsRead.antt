-- What was read of a file, as its two lists.
use Rattle.desk_types.proofs.Common.{◌≡◌, ◌⊎◌, Err, IfErr, IfOk, inl, inr, IsSomeAnd, None, Ok, Option, Result, Some, Bool, ℕ}
use Rattle.desk_types.proofs.Common.{subst}
use Rattle.feeder_state.specs.State.{Represents}
use Rattle.feeder_state.specs.declared.desk.StateDesk.{StateDesk}
use Rattle.line_file.specs.declared.fault.ListFault.{ListFault}
use Rattle.line_file.specs.declared.store.Line.{Line}
use Rattle.line_file.specs.Files.{FindsFault, FindsLine}
use Rattle.desk_file.specs.Unread.{IsJustOpened}
use Rattle.sqlite.specs.Files.{image_of}
use Rattle.sqlite_disk.specs.declared.Disk as disk
use Rattle.sqlite_disk.specs.declared.Files.{Files}
use Rattle.sqlite_wal.specs.Recovery.{Image}
use Rattle.std.specs.Global.{Global}
use Rattle.std.specs.Prelude.{Vec}
use Rattle.line_doubt.specs.declared.reason.Doubt.{Doubt}
use Rattle.doubt_file.specs.Files.{TellsDoubts}
use Rattle.line_reads.specs.{Doubts.HasDoubts, Reading.HasFault, Reading.HasLine}

-- ---- a result, and the files that were read for it

some-weaker : {F : Type 0} (files : Option F) (P Q : F → Type 0) → ((f : F) → P f → Q f) → IsSomeAnd files P
    → IsSomeAnd files Q
some-weaker None P Q to none = none
some-weaker (Some f) P Q to is = to f is

pub some-of : {A E F : Type 0} (r : Result A E) (files : Option F) (a : A) → r ≡ Ok a → (P : A → F → Type 0)
    (Q : F → Type 0) → ((f : F) → P a f → Q f) → IfOk r (λ x. IsSomeAnd files (P x)) → IsSomeAnd files Q
some-of r files a is P Q to has =
    some-weaker files (P a) Q to (subst (λ (o : Result _ _). IfOk o (λ x. IsSomeAnd files (P x))) is has)

pub err-of : {A E : Type 0} (r : Result A E) (e : E) (P : E → Type 0) → r ≡ Err e → IfErr r P → P e
err-of r e P is has = subst (λ (o : Result _ _). IfErr o P) is has

pub no-line : {A B : Type 0} (Has Told : A → Type 0) (fault : A) → Has fault → B ⊎ Told fault
    → B ⊎ ((f : A) × Has f × Told f)
no-line Has Told fault has (inl none) = inl none
no-line Has Told fault has (inr told) = inr (fault, has, told)

-- ---- files that were just opened

module _ {F : Type 0} {g : disk.Ghosts F} {image : Image} {first : Files F} (f : Files F)
    (read : Result (Line StateDesk) ListFault) (fresh : IsJustOpened g image first) where
  pub line-at : (with_rows : Bool) → IfOk read (FindsLine Represents with_rows g (image_of g first) f)
      → IfOk read (HasLine with_rows g image (Some f))
  line-at with_rows = subst (λ (i : Image). IfOk read (FindsLine Represents with_rows g i f)) fresh.held

module _ {F X : Type 0} {g : disk.Ghosts F} {image : Image} {first : Files F} (f : Files F)
    (read : Result X ListFault) (fresh : IsJustOpened g image first) where
  pub fault-at : IfErr read (FindsFault g (image_of g first) f) → IfErr read (HasFault g image (Some f))
  fault-at = subst (λ (i : Image). IfErr read (FindsFault g i f)) fresh.held

module _ {F : Type 0} {g : disk.Ghosts F} {image : Image} {first : Files F} (f : Files F)
    (read : Result (Vec Doubt Global) ListFault) (fresh : IsJustOpened g image first) where
  pub doubts-at : (within : ℕ) → IfOk read (λ found. TellsDoubts within g (image_of g first) f found.items)
      → IfOk read (λ found. HasDoubts within g image (Some f) found.items)
  doubts-at within = subst (λ (i : Image). IfOk read (λ found. TellsDoubts within g i f found.items)) fresh.held
