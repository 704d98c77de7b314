-- Worked command lines: their meaning, and the text printed if no command is run.
use Rattle.desk_types.proofs.Common.{[], ◌∙◌, ◌∷◌, ◌≡◌, codes, false, inl, inr, List, None, option_map_or}
use Rattle.desk_types.proofs.Common.{refl, Some, sym, true≢false, ℕ}
use Rattle.clap.proofs.OnLiterals.{clap_on_literals}
use Rattle.clap.proofs.ValueTestLemmas.{Accepts-accepts, accepts-Accepts}
use Rattle.clap.specs.ValueTests.{is_unsigned_in}
use Rattle.clap.specs.Walk.{Row}
use Rattle.clap.specs.declared.error.kind.ErrorKind.TheVariants.{ArgumentConflict, DisplayHelp}
use Rattle.clap.specs.declared.error.kind.ErrorKind.TheVariants.{DisplayVersion, InvalidSubcommand}
use Rattle.clap.specs.declared.error.kind.ErrorKind.TheVariants.{InvalidValue, MissingRequiredArgument}
use Rattle.clap.specs.declared.error.kind.ErrorKind.TheVariants.{MissingSubcommand, UnknownArgument}
use Rattle.desk_types.specs.declared.limits.TheConstants.{MOST_CONNECTIONS, MOST_ENTRIES, MOST_PORT}
use Rattle.desk_words.specs.CommandLine.{AsksForAudit, AsksForFeed, AsksForMigration, AsksForNothing}
use Rattle.desk_words.specs.CommandLine.{AsksForReport, AsksForServing, IsGreatest, named_by, told_of}
use Rattle.clap.specs.declared.builder.value_parser.ValueParser.TheVariants as vp

abbrev rows_in : List (List ℕ) → List Row
rows_in words = option_map_or (λ (p : List ℕ × List Row). p.1) (named_by words) []

-- ---- feed

pub feed_is_in_memory : AsksForFeed (codes "feed" ∷ []) None 1000000000
unfolding told_of named_by clap_on_literals
feed_is_in_memory = (rows_in (codes "feed" ∷ []), (refl, refl), refl, refl)

pub feed_takes_a_file : AsksForFeed (codes "feed" ∷ codes "--db" ∷ codes "f" ∷ []) (Some (codes "f")) 1000000000
unfolding told_of named_by clap_on_literals
feed_takes_a_file = (rows_in (codes "feed" ∷ codes "--db" ∷ codes "f" ∷ []), (refl, refl), refl, refl)

greatest_3 : IsGreatest (codes "3")
greatest_3 = accepts-Accepts false (vp.Unsigned 1 MOST_ENTRIES) (codes "3") refl

pub feed_takes_both : AsksForFeed (codes "feed" ∷ codes "--db" ∷ codes "f" ∷ codes "--greatest" ∷ codes "3" ∷ []) (Some (codes "f")) 3
unfolding told_of named_by clap_on_literals
feed_takes_both = (rows_in (codes "feed" ∷ codes "--db" ∷ codes "f" ∷ codes "--greatest" ∷ codes "3" ∷ []), (refl, refl), refl, (greatest_3, refl))

pub feed_takes_both_in_any_order : AsksForFeed (codes "feed" ∷ codes "--greatest=3" ∷ codes "--db=f" ∷ []) (Some (codes "f")) 3
unfolding told_of named_by clap_on_literals
feed_takes_both_in_any_order = (rows_in (codes "feed" ∷ codes "--greatest=3" ∷ codes "--db=f" ∷ []), (refl, refl), refl, (greatest_3, refl))

no_greatest : (text : List ℕ) → is_unsigned_in 1 MOST_ENTRIES text ≡ false → IsGreatest text → ⊥
no_greatest text bad is = true≢false (sym (Accepts-accepts false (vp.Unsigned 1 MOST_ENTRIES) text is) ∙ bad)

pub zero_is_bad : AsksForNothing (codes "feed" ∷ codes "--greatest" ∷ codes "0" ∷ [])
unfolding told_of named_by clap_on_literals
zero_is_bad = inr (rows_in (codes "feed" ∷ codes "--greatest" ∷ codes "0" ∷ []), inl ((refl, refl), no_greatest (codes "0") refl))

pub one_too_many_is_bad : AsksForNothing (codes "feed" ∷ codes "--greatest" ∷ codes "1000000001" ∷ [])
unfolding told_of named_by clap_on_literals
one_too_many_is_bad = inr (rows_in (codes "feed" ∷ codes "--greatest" ∷ codes "1000000001" ∷ []), inl ((refl, refl), no_greatest (codes "1000000001") refl))

pub no_number_is_bad : AsksForNothing (codes "feed" ∷ codes "--greatest" ∷ codes "x" ∷ [])
unfolding told_of named_by clap_on_literals
no_number_is_bad = inr (rows_in (codes "feed" ∷ codes "--greatest" ∷ codes "x" ∷ []), inl ((refl, refl), no_greatest (codes "x") refl))

pub an_empty_number_is_bad : AsksForNothing (codes "feed" ∷ codes "--greatest" ∷ [] ∷ [])
unfolding told_of named_by clap_on_literals
an_empty_number_is_bad = inr (rows_in (codes "feed" ∷ codes "--greatest" ∷ [] ∷ []), inl ((refl, refl), no_greatest [] refl))

pub a_number_is_wanted : told_of (codes "feed" ∷ codes "--greatest" ∷ []) ≡ InvalidValue ∷ []
unfolding told_of clap_on_literals
a_number_is_wanted = refl

pub one_file_is_enough : told_of (codes "feed" ∷ codes "--db" ∷ codes "f" ∷ codes "--db" ∷ codes "g" ∷ []) ≡ ArgumentConflict ∷ []
unfolding told_of clap_on_literals
one_file_is_enough = refl

pub feed_takes_no_word : told_of (codes "feed" ∷ codes "more" ∷ []) ≡ UnknownArgument ∷ []
unfolding told_of clap_on_literals
feed_takes_no_word = refl

-- ---- serve

pub serve_takes_a_file : AsksForServing (codes "serve" ∷ codes "--db" ∷ codes "f" ∷ codes "--port" ∷ codes "8080" ∷ codes "--connections" ∷ codes "2" ∷ []) (codes "f") 8080 2 1000000000
unfolding told_of named_by clap_on_literals
serve_takes_a_file = (
  rows_in (codes "serve" ∷ codes "--db" ∷ codes "f" ∷ codes "--port" ∷ codes "8080" ∷ codes "--connections" ∷ codes "2" ∷ []),
  (refl, refl),
  refl,
  (accepts-Accepts false (vp.Unsigned 1 MOST_PORT) (codes "8080") refl, refl),
  (accepts-Accepts false (vp.Unsigned 1 MOST_CONNECTIONS) (codes "2") refl, refl),
  refl,
)

pub a_port_has_sixteen_bits : AsksForNothing (codes "serve" ∷ codes "--db" ∷ codes "f" ∷ codes "--port" ∷ codes "65536" ∷ codes "--connections" ∷ codes "2" ∷ [])
unfolding told_of named_by clap_on_literals
a_port_has_sixteen_bits = inr (
  rows_in (codes "serve" ∷ codes "--db" ∷ codes "f" ∷ codes "--port" ∷ codes "65536" ∷ codes "--connections" ∷ codes "2" ∷ []),
  inr (inl ((refl, refl), inl (λ is. true≢false (sym (Accepts-accepts false (vp.Unsigned 1 MOST_PORT) (codes "65536") is) ∙ refl)))),
)

pub serve_wants_connections : told_of (codes "serve" ∷ codes "--db" ∷ codes "f" ∷ codes "--port" ∷ codes "8080" ∷ []) ≡ MissingRequiredArgument ∷ []
unfolding told_of clap_on_literals
serve_wants_connections = refl

-- ---- report

pub report_takes_a_target : AsksForReport (codes "report" ∷ codes "--db" ∷ codes "f" ∷ codes "--get" ∷ codes "/overdue" ∷ []) (codes "f") (codes "/overdue")
unfolding told_of named_by clap_on_literals
report_takes_a_target = (rows_in (codes "report" ∷ codes "--db" ∷ codes "f" ∷ codes "--get" ∷ codes "/overdue" ∷ []), (refl, refl), refl, refl)

pub report_wants_a_target : told_of (codes "report" ∷ codes "--db" ∷ codes "f" ∷ []) ≡ MissingRequiredArgument ∷ []
unfolding told_of clap_on_literals
report_wants_a_target = refl

-- ---- imports

pub import_setup_is_taken : told_of (codes "import-setup" ∷ codes "--db" ∷ codes "d" ∷ codes "--id" ∷ codes "i" ∷ codes "--source" ∷ codes "s" ∷ codes "--time" ∷ codes "t" ∷ codes "--product" ∷ codes "p" ∷ codes "--machine" ∷ codes "m" ∷ codes "--file" ∷ codes "f" ∷ []) ≡ []
unfolding told_of clap_on_literals
import_setup_is_taken = refl

pub import_counts_is_taken : told_of (codes "import-counts" ∷ codes "--db" ∷ codes "d" ∷ codes "--id" ∷ codes "i" ∷ codes "--source" ∷ codes "s" ∷ codes "--time" ∷ codes "t" ∷ codes "--file" ∷ codes "f" ∷ []) ≡ []
unfolding told_of clap_on_literals
import_counts_is_taken = refl

pub an_import_wants_a_time : told_of (codes "import-counts" ∷ codes "--db" ∷ codes "d" ∷ codes "--id" ∷ codes "i" ∷ codes "--source" ∷ codes "s" ∷ codes "--file" ∷ codes "f" ∷ []) ≡ MissingRequiredArgument ∷ []
unfolding told_of clap_on_literals
an_import_wants_a_time = refl

pub a_count_has_no_product : told_of (codes "import-counts" ∷ codes "--db" ∷ codes "d" ∷ codes "--id" ∷ codes "i" ∷ codes "--source" ∷ codes "s" ∷ codes "--time" ∷ codes "t" ∷ codes "--file" ∷ codes "f" ∷ codes "--product" ∷ codes "p" ∷ []) ≡ UnknownArgument ∷ []
unfolding told_of clap_on_literals
a_count_has_no_product = refl

pub an_import_has_one_id : told_of (codes "import-counts" ∷ codes "--db" ∷ codes "d" ∷ codes "--id" ∷ codes "i" ∷ codes "--source" ∷ codes "s" ∷ codes "--time" ∷ codes "t" ∷ codes "--file" ∷ codes "f" ∷ codes "--id" ∷ codes "j" ∷ []) ≡ ArgumentConflict ∷ []
unfolding told_of clap_on_literals
an_import_has_one_id = refl

-- ---- audit

pub audit_takes_a_file : AsksForAudit (codes "audit" ∷ codes "--db" ∷ codes "f" ∷ []) (codes "f")
unfolding told_of named_by clap_on_literals
audit_takes_a_file = (rows_in (codes "audit" ∷ codes "--db" ∷ codes "f" ∷ []), (refl, refl), refl)

pub audit_wants_a_file : told_of (codes "audit" ∷ []) ≡ MissingRequiredArgument ∷ []
unfolding told_of clap_on_literals
audit_wants_a_file = refl

pub audit_makes_no_desk : told_of (codes "audit" ∷ codes "--db" ∷ codes "f" ∷ codes "--greatest" ∷ codes "3" ∷ []) ≡ UnknownArgument ∷ []
unfolding told_of clap_on_literals
audit_makes_no_desk = refl

-- ---- migrate

pub migrate_takes_a_file : AsksForMigration (codes "migrate" ∷ codes "--db" ∷ codes "f" ∷ []) (codes "f")
unfolding told_of named_by clap_on_literals
migrate_takes_a_file = (rows_in (codes "migrate" ∷ codes "--db" ∷ codes "f" ∷ []), (refl, refl), refl)

pub migrate_wants_a_file : told_of (codes "migrate" ∷ []) ≡ MissingRequiredArgument ∷ []
unfolding told_of clap_on_literals
migrate_wants_a_file = refl

pub migrate_takes_one_file : told_of (codes "migrate" ∷ codes "--db" ∷ codes "f" ∷ codes "--db" ∷ codes "g" ∷ []) ≡ ArgumentConflict ∷ []
unfolding told_of clap_on_literals
migrate_takes_one_file = refl

-- ---- no command

pub help_is_told : told_of (codes "--help" ∷ []) ≡ DisplayHelp ∷ []
unfolding told_of clap_on_literals
help_is_told = refl

pub help_of_feed_is_told : told_of (codes "feed" ∷ codes "-h" ∷ []) ≡ DisplayHelp ∷ []
unfolding told_of clap_on_literals
help_of_feed_is_told = refl

pub version_is_told : told_of (codes "--version" ∷ []) ≡ DisplayVersion ∷ []
unfolding told_of clap_on_literals
version_is_told = refl

pub a_command_is_wanted : told_of [] ≡ MissingSubcommand ∷ []
unfolding told_of clap_on_literals
a_command_is_wanted = refl

pub another_command_is_none : told_of (codes "fed" ∷ []) ≡ UnknownArgument ∷ InvalidSubcommand ∷ []
unfolding told_of clap_on_literals
another_command_is_none = refl
