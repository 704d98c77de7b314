-- Worked command lines: their meaning, and the text printed if no command is run.
use Rattle.desk_types.proofs.Common.{[], ◌∷◌, ◌≡◌, codes, refl}
use Rattle.clap.proofs.OnLiterals.{clap_on_literals}
use Rattle.clap.specs.declared.error.kind.ErrorKind.TheVariants.{ArgumentConflict, InvalidSubcommand}
use Rattle.clap.specs.declared.error.kind.ErrorKind.TheVariants.{MissingRequiredArgument, UnknownArgument}
use Rattle.line_words.specs.CommandLine.{told_of}

pub audit_has_no_machine : told_of
    (codes "audit" ∷ codes "--db" ∷ codes "f" ∷ codes "--machine" ∷ codes "m" ∷ [])
    ≡ UnknownArgument ∷ []
unfolding told_of clap_on_literals
audit_has_no_machine = refl

pub state_is_taken : told_of
    (codes "state" ∷ codes "--db" ∷ codes "f" ∷ codes "--machine" ∷ codes "m" ∷ []) ≡ []
unfolding told_of clap_on_literals
state_is_taken = refl

pub state_wants_a_machine : told_of (codes "state" ∷ codes "--db" ∷ codes "f" ∷ []) ≡ MissingRequiredArgument ∷ []
unfolding told_of clap_on_literals
state_wants_a_machine = refl

pub one_machine_is_enough : told_of
    (codes "state" ∷ codes "--db" ∷ codes "f" ∷ codes "--machine=m" ∷ codes "--machine=n" ∷ [])
    ≡ ArgumentConflict ∷ []
unfolding told_of clap_on_literals
one_machine_is_enough = refl

pub serve_is_taken : told_of
    (codes "serve" ∷ codes "--db" ∷ codes "f" ∷ codes "--port" ∷ codes "8080" ∷ []) ≡ []
unfolding told_of clap_on_literals
serve_is_taken = refl

pub serve_wants_a_port : told_of (codes "serve" ∷ codes "--db" ∷ codes "f" ∷ []) ≡ MissingRequiredArgument ∷ []
unfolding told_of clap_on_literals
serve_wants_a_port = refl

pub another_command_is_none : told_of (codes "feed" ∷ []) ≡ UnknownArgument ∷ InvalidSubcommand ∷ []
unfolding told_of clap_on_literals
another_command_is_none = refl
