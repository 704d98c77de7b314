-- Files that are refused.
use Rattle.desk_types.proofs.Common.{◌≡◌, ◌≢◌, ◌⊎◌, ap, arith, Err, false, IfErr, IfSome, inl, inr, list_any, None}
use Rattle.desk_types.proofs.Common.{Ok, Option, refl, Result, Some, subst, sym, true, ℕ}
use Rattle.line_tables.proofs.Common.{Database, file_state, has_state, HasCleanDisk, Held, KeepsCommit, Opens}
use Rattle.line_tables.proofs.Common.{Reads, Rules, State, Survives, Trees, Two}
use Rattle.desk_file.proofs.FirstLists.{found}
use Rattle.desk_file.specs.Files.{IsFoundIn}
use Rattle.desk_file.specs.Found.{FindsAs}
use Rattle.desk_file.specs.Refused.{idle_state, IsFaultFor, IsFaultIn, IsRefused, IsUnchangedSince, IsUnfound}
use Rattle.desk_file.specs.Refused.{LeavesMade, RefusesRun}
use Rattle.desk_file.specs.Unread.{IsUnreadAt}
use Rattle.desk_file.specs.declared.refusal.RefusedFile.{RefusedFile}
use Rattle.std.specs.Prelude.{IsErrAnd}
use Rattle.line_schema.specs.Opening.{IsFaultBy, IsNamedBy, IsNoDeskBy, IsToldBy}
use Rattle.line_schema.specs.declared.fault.OpenFault.{OpenFault}
use Rattle.line_schema.specs.declared.fault.OpenFault.TheVariants.{NotADesk, NotBlank, NotLawful}
use Rattle.line_schema.specs.declared.fault.OpenFault.TheVariants.{OtherVersion, TableDiffers, Unavailable}
use Rattle.line_tables.specs.Names.{has_name, is_accepted, is_version}
use Rattle.sqlite.specs.Files.{IsOpened}
use Rattle.sqlite_schema.specs.declared.schema.Schema.{Schema}
use Rattle.sqlite_disk.specs.declared.Files.{Files}
use Rattle.sqlite_store.specs.declared.store.FileStore.{FileStore}
use Rattle.sqlite_wal.specs.Recovery.{Image}
use Rattle.sqlite_disk.specs.declared.Disk as disk

-- ---- the fault

module _ (rules : Rules) (s : State) (opens : Opens s) where
  seen : s.now.schema ≡ s.committed.schema
  seen = ap (λ (db : Database). db.schema) opens.clean

  reads_at : (Is : Database → Type 0) → Reads s Is → Reads (idle_state s.committed) Is
  reads_at Is reads = record { was_open = refl; are = reads.are }

  named_at : IsNamedBy rules s → IsNamedBy rules (idle_state s.committed)
  named_at = subst (λ (x : Schema). (list_any is_version x.tables ≡ true) × (list_any is_accepted x.tables ≡ true) × (has_state rules x.tables ≡ true)) seen

  none_at : IsNoDeskBy rules s → IsNoDeskBy rules (idle_state s.committed)
  none_at (inl missing) = inl (subst (λ (x : Schema). list_any is_version x.tables ≡ false) seen missing)
  none_at (inr (inl reads)) = inr (inl (reads_at _ reads))
  none_at (inr (inr (missing, of))) =
      inr (inr (subst (λ (x : Schema). (list_any is_accepted x.tables ≡ false) ⊎ (has_state rules x.tables ≡ false)) seen missing, reads_at _ of))

  fault_at : (fault : OpenFault) → IsFaultBy rules s fault → IsFaultBy rules (idle_state s.committed) fault
  fault_at NotADesk is = none_at is
  fault_at (OtherVersion n) is = (is.0, reads_at _ is.1)
  fault_at (NotLawful n) is = (is.0, reads_at _ is.1, reads_at _ is.2)
  fault_at (TableDiffers table) is = record {
    greatest = is.greatest;
    list = is.list;
    version = reads_at _ is.version;
    rows = reads_at _ is.rows;
    first = reads_at _ is.first;
  }
  fault_at NotBlank is = is
  fault_at Unavailable is = tt

  told_at : (fault : OpenFault) → IsToldBy rules s fault → IsToldBy rules (idle_state s.committed) fault
  told_at NotADesk is = tt
  told_at (OtherVersion n) is = subst (λ (x : Schema). list_any is_version x.tables ≡ true) seen is
  told_at (NotLawful n) is = named_at is
  told_at (TableDiffers table) is = named_at is
  told_at NotBlank is = tt
  told_at Unavailable is = tt

-- ---- the returned connection

module _ {D : Type 0} {g : disk.Ghosts D} (image : Image) (first last : Held (FileStore D g)) (Leaves : State → Trees → Type 0) (opened : HasCleanDisk (file_state first) → IsOpened first)
    (finds : HasCleanDisk (file_state first) → FindsAs image (file_state first)) (kept : HasCleanDisk (file_state last) → KeepsCommit (file_state first) (file_state last))
    (survives : Survives (file_state first) (file_state last) (Leaves (file_state first))) where
  clean_before : HasCleanDisk (file_state last) → HasCleanDisk (file_state first)
  clean_before clean = omega (arith, survives.clean, clean)

  found_first : HasCleanDisk (file_state last) → IsFoundIn image (file_state first).committed
  found_first clean =
      let before = clean_before clean in
      let at = opened before in
      found image (file_state first) (finds before) at.0 at.1

  pub refused : (StandsIn : OpenFault → Type 0) (MakesNone : Type 0) (fault : OpenFault) → (HasCleanDisk (file_state last) → StandsIn fault) → (MakesNone → fault ≢ NotBlank)
      → IsRefused image StandsIn Leaves MakesNone (record { fault = fault; file = Some last; unread = None })
  refused StandsIn MakesNone fault stands never = record {
    unopened = λ none. absurd (cc);
    fault = stands;
    found = λ clean is_open. subst (λ (db : Database). IsFoundIn image db) (sym ((kept clean).committed is_open)) (found_first clean);
    since = (first, record { opened = λ clean. (opened clean, finds clean); kept = kept; survives = survives });
    unread = tt;
    never = never;
  }

  pub fault_in : (rules : Rules) (fault : OpenFault) → (HasCleanDisk (file_state last) → IsFaultBy rules (file_state first) fault) → IsToldBy rules (file_state first) fault
      → HasCleanDisk (file_state last) → IsFaultIn image rules fault
  fault_in rules fault is told clean =
      let at = opened (clean_before clean) in
      ((file_state first).committed, found_first clean, fault_at rules (file_state first) at.0 fault (is clean), told_at rules (file_state first) at.0 fault told)

  pub unmade : (greatest : ℕ) (fault : OpenFault) → (fault ≡ Unavailable) ⊎ ((fault ≡ NotBlank) × (list_any has_name (file_state first).now.schema.tables ≡ true))
      → HasCleanDisk (file_state last) → IsFaultFor image (Some greatest) fault
  unmade greatest fault (inl is) clean = inl (
    (file_state first).committed,
    found_first clean,
    subst (λ (f : OpenFault). IsFaultBy Two (idle_state (file_state first).committed) f) (sym is) tt,
    subst (λ (f : OpenFault). IsToldBy Two (idle_state (file_state first).committed) f) (sym is) tt,
  )
  unmade greatest fault (inr (is, named)) clean =
      let at = opened (clean_before clean) in
      inr (refl, is, ((file_state first).committed, found_first clean, subst (λ (x : Schema). list_any has_name x.tables ≡ true) (ap (λ (db : Database). db.schema) at.0.clean) named))

-- ---- nothing was found

module _ {D : Type 0} {g : disk.Ghosts D} (image : Image) (StandsIn : OpenFault → Type 0)
    (Leaves : State → Trees → Type 0) (MakesNone : Type 0) where
  unfound_so : (file : Option (Held (FileStore D g))) (unread : Option (Files D)) → file ≡ None
      → IfSome unread (IsUnreadAt g image)
      → IsRefused image StandsIn Leaves MakesNone (record { fault = Unavailable; file = file; unread = unread })
  unfound_so None None none kept = record {
    unopened = λ _. inl refl;
    fault = tt;
    found = tt;
    since = tt;
    unread = tt;
    never = λ _ is. absurd (cc);
  }
  unfound_so None (Some f) none kept = record {
    unopened = λ _. inl refl;
    fault = tt;
    found = tt;
    since = tt;
    unread = (refl, refl, kept);
    never = λ _ is. absurd (cc);
  }
  unfound_so (Some conn) unread none kept = absurd (cc)

  pub unfound : (r : RefusedFile D g) → IsUnfound image r → IsRefused image StandsIn Leaves MakesNone r
  unfound r is =
      let Is : OpenFault → Type 0 =
      λ fault. IsRefused image StandsIn Leaves MakesNone (record { fault = fault; file = r.file; unread = r.unread }) in
      subst Is (sym is.0) (unfound_so r.file r.unread is.1 is.2)

-- A refused file is passed on as it is.
pub passed : {X D : Type 0} {g : disk.Ghosts D} (Is : RefusedFile D g → Type 0) (r : RefusedFile D g)
    (result : Result X (RefusedFile D g)) → IsErrAnd result (λ r'. r' ≡ r) → Is r → IfErr result Is
passed Is r (Ok x) same is = tt
passed Is r (Err r') same is = subst Is (sym same) is

-- ---- by a run

survives_made : (old new : State) (make : Option ℕ) → Survives old new (λ _. ⊥) → Survives old new (LeavesMade make old)
survives_made old new make s = record {
  clean = s.clean;
  shield = s.shield;
  counts = s.counts;
  limit = s.limit;
  closes = s.closes;
  crash = λ clean db left. elim (s.crash clean db left) [ inl before ↦ inl before | inr none ↦ absurd none ];
}

since_made : {D : Type 0} {g : disk.Ghosts D} (image : Image) (make : Option ℕ) (first last : Held (FileStore D g)) → IsUnchangedSince image (λ _ _. ⊥) first last → IsUnchangedSince image (LeavesMade make) first last
since_made image make first last u = record { opened = u.opened; kept = u.kept; survives = survives_made (file_state first) (file_state last) make u.survives }

refuses_so : {D : Type 0} {g : disk.Ghosts D} (image : Image) (make : Option ℕ) (fault : OpenFault)
    (file : Option (Held (FileStore D g))) (unread : Option (Files D)) → fault ≢ NotBlank
    → IsRefused image (IsFaultIn image Two) (λ _ _. ⊥) ⊥ (record { fault = fault; file = file; unread = unread })
    → RefusesRun image make (record { fault = fault; file = file; unread = unread })
refuses_so image make fault None unread never is = record {
  unopened = λ none. elim (is.unopened none) [ inl un ↦ inl un | inr made ↦ absurd made.1 ];
  fault = tt;
  found = tt;
  since = tt;
  unread = is.unread;
  never = λ _. never;
}
refuses_so image make fault (Some conn) unread never is = record {
  unopened = λ none. absurd (cc);
  fault = λ clean. inl (is.fault clean);
  found = is.found;
  since = (is.since.0, since_made image make is.since.0 conn is.since.1);
  unread = is.unread;
  never = λ _. never;
}

refuses_run : {D : Type 0} {g : disk.Ghosts D} (image : Image) (make : Option ℕ) (r : RefusedFile D g) → r.fault ≢ NotBlank → IsRefused image (IsFaultIn image Two) (λ _ _. ⊥) ⊥ r → RefusesRun image make r
refuses_run image make r never is = refuses_so image make r.fault r.file r.unread never is

pub refuses : {X D : Type 0} {g : disk.Ghosts D} (image : Image) (make : Option ℕ) (result : Result X (RefusedFile D g)) → IfErr result (λ r. r.fault ≢ NotBlank) → IfErr result (IsRefused image (IsFaultIn image Two) (λ _ _. ⊥) ⊥)
    → IfErr result (RefusesRun image make)
refuses image make (Ok x) never is = tt
refuses image make (Err r) never is = refuses_run image make r never is
