-- The first bytes of a file.
use Rattle.desk_types.proofs.Common.{[], ◌++◌, ◌∙◌, ◌≡◌, ◌≤◌, ap, ap₂, arith, Bool, cond, Err, false, IfSome}
use Rattle.desk_types.proofs.Common.{leb-false, leb-true, length, length-take-le, List, nat_le, None, Ok}
use Rattle.desk_types.proofs.Common.{Option, refl, Result, Some, subst, suc, sym, take, take_all, true, ℕ}
use Rattle.cfx_profile.specs.Fault.{◌>>=◌}
use Rattle.desk_feed.specs.{Folder.IsRead, Import.IsSaidBy}
use Rattle.desk_types.specs.{declared.command.Command.Command, declared.limits.TheConstants.LONGEST_INPUT}
use Rattle.imports.specs.{File.counts_said, File.file_rows, File.Record, File.records_of, File.rows_of}
use Rattle.imports.specs.{File.setup_said, Import.command_said, Import.rows_said, Import.stamped_by}
use Rattle.imports.specs.{declared.fault.ImportFault.ImportFault}
use Rattle.imports.specs.{declared.fault.ImportFault.TheVariants.OverLimit, declared.import.Content.Content}
use Rattle.imports.specs.{declared.import.Content.TheVariants.Counts}
use Rattle.imports.specs.{declared.import.Content.TheVariants.Sheet, declared.import.Import.Import}
use Rattle.std.proofs.{Common.option_map, lemmas.Bool.lt-leb}
use Rattle.std.specs.{Io.Take.take_inner, Io.Take.take_limit, Io.Take.take_remaining}
use Rattle.std.specs.{declared.io.traits.Take.Take}
use Rattle.desk_types.specs.declared.command.Command.TheVariants as command

-- ---- reading

known_front : (file : Option (List ℕ)) (bytes : List ℕ) → IfSome (option_map (take (suc LONGEST_INPUT)) file) (λ xs. bytes ≡ xs) → IsRead file bytes
known_front None bytes all = tt
known_front (Some xs) bytes all = all

pub is_read : {R : Type 0} (remaining : R → Option (List ℕ)) (t : Take R) (opened : R) (file : Option (List ℕ)) (old new : List ℕ)
    → take_limit t ≡ suc LONGEST_INPUT → take_inner t ≡ opened → remaining opened ≡ file → old ≡ []
    → IfSome (take_remaining remaining t) (λ xs. new ≡ old ++ xs) → IsRead file new
is_read remaining t opened file old new limit inner is empty gave =
    let first : take_remaining remaining t ≡ option_map (take (suc LONGEST_INPUT)) file =
    ap₂ (λ (n : ℕ) (o : Option (List ℕ)). option_map (take n) o) limit (ap remaining inner ∙ is) in
    let all : IfSome (take_remaining remaining t) (λ xs. new ≡ xs) = subst (λ (l : List ℕ). IfSome (take_remaining remaining t) (λ xs. new ≡ l ++ xs)) empty gave in
    known_front file new (subst (λ (o : Option (List ℕ)). IfSome o (λ xs. new ≡ xs)) first all)

-- ---- content

over : {X : Type 0} (is_header : Record → Bool) (reading : ℕ → Record → Result X ImportFault) (bytes : List ℕ) → nat_le (length bytes) LONGEST_INPUT ≡ false
    → file_rows is_header reading bytes ≡ Err OverLimit
unfolding file_rows
over is_header reading bytes long = ap (λ (b : Bool). cond b (rows_of is_header reading (records_of bytes)) (Err OverLimit)) long

both_over : (content : Content) (a b : List ℕ) → nat_le (length a) LONGEST_INPUT ≡ false → nat_le (length b) LONGEST_INPUT ≡ false → rows_said content a ≡ rows_said content b
unfolding setup_said counts_said
both_over (Sheet product machine) a b x y = ap (λ r. r >>= (λ rows. Ok (command.SheetDefined product machine rows))) (over _ _ a x ∙ sym (over _ _ b y))
both_over Counts a b x y = ap (λ r. r >>= (λ counts. Ok (command.CountsTaken counts))) (over _ _ a x ∙ sym (over _ _ b y))

front_rows : (content : Content) (all : List ℕ) (short : Bool) → nat_le (length all) LONGEST_INPUT ≡ short → rows_said content (take (suc LONGEST_INPUT) all) ≡ rows_said content all
front_rows content all true is = ap (rows_said content) (take_all (suc LONGEST_INPUT) all (omega (arith, leb-true (length all) LONGEST_INPUT is)))
front_rows content all false is =
    let long : suc LONGEST_INPUT ≤ length all = omega (arith, leb-false (length all) LONGEST_INPUT is) in
    let front : length (take (suc LONGEST_INPUT) all) ≡ suc LONGEST_INPUT = length-take-le (suc LONGEST_INPUT) all long in
    both_over content (take (suc LONGEST_INPUT) all) all (lt-leb (length (take (suc LONGEST_INPUT) all)) LONGEST_INPUT (omega (arith, front))) is

front_command : (import : Import) (all : List ℕ) → command_said import (take (suc LONGEST_INPUT) all) ≡ command_said import all
unfolding command_said
front_command import all =
    ap (λ (r : Result Command ImportFault). r >>= (λ command. Ok (stamped_by import command))) (front_rows import.content all (nat_le (length all) LONGEST_INPUT) refl)

pub said_by_all : (import : Import) (file : Option (List ℕ)) (bytes : List ℕ) → IsRead file bytes → IsSaidBy import file (command_said import bytes)
said_by_all import None bytes is = tt
said_by_all import (Some all) bytes is = ap (command_said import) is ∙ front_command import all
