use Rattle.desk_types.proofs.Common.{[], ◌∙◌, ◌∷◌, ◌≡◌, ◌⊎◌, ap, Bool, bytes_eq-Decides, codes, cond, false}
use Rattle.desk_types.proofs.Common.{inl, inr, is_some, List, None, Option, refl, rules, Some, sym, true}
use Rattle.desk_types.proofs.Common.{true≢false, unwrap_or, ℕ}
use Rattle.clap.specs.Faults.{check_fault, defaults_fault, level_fault, settle_fault, walk_fault}
use Rattle.clap.specs.Kinds.{Kinds, or_else}
use Rattle.clap.specs.Matches.{found_of, subcommand_name_of}
use Rattle.clap.specs.Simple.{argument_words, built, entered, names_of, rows_at, Shape, subcommand_rows_of}
use Rattle.clap.specs.Walk.{finished, Held, Names, Row, rows_of, settled, stop_after, walk, walk_from}
use Rattle.clap.specs.declared.parser.matches.ArgMatches.{ArgMatches}
use Rattle.clap.specs.declared.parser.matches.ArgMatches.TheViews.{out-ArgMatches}
use Rattle.desk_words.specs.CommandLine.{commands, named_by, told_of}
use Rattle.std.proofs.Common.{option_map}
use Rattle.std.specs.Str.{bytes_eq}
use Rattle.desk_words.proofs.command_line.command_of.Goals as goal

last_of : (a b : Kinds) → or_else a b ≡ [] → b ≡ []
last_of [] b none = none
last_of (k ∷ ks) b none = cc

-- A level with no mistake passes its last checks.
level_end : (s : Shape) (names : Names) (h : Held) (words : List (List ℕ)) (has : Bool) (below : Kinds) → level_fault s names h words has below ≡ []
    → check_fault s (finished s.rules (walk s.rules names h words).held) has ≡ []
level_end s names h words has below none =
    let end = (walk s.rules names h words).held in
    last_of (defaults_fault (settled s.rules end).rows s.rules) _
    (last_of (settle_fault s.rules s.args_override_self end) _
    (last_of below _ (last_of (walk_fault s names (walk_from h) words) _ none)))

is_wanted : (rows : List Row) (has : Bool) → check_fault (built commands).top rows has ≡ [] → has ≡ true
is_wanted rows true none = refl
is_wanted rows false none = cc

level_wants : (names : Names) (h : Held) (words : List (List ℕ)) (has : Bool) (below : Kinds) → level_fault (built commands).top names h words has below ≡ []
    → has ≡ true
level_wants names h words has below none =
    let top = (built commands).top in
    is_wanted (finished top.rules (walk top.rules names h words).held) has (level_end top names h words has below none)

abbrev name_in : Option (List ℕ × List Row) → List ℕ
name_in o = unwrap_or (option_map (λ q. q.0) o) []

of_seven : (f g h i j k l : Shape) (x y z u v w t : Bool) (words : List (List ℕ)) (p : List ℕ × List Row)
    → option_map (λ s. rows_at s words) (cond x (Some f) (cond y (Some g) (cond z (Some h) (cond u (Some i) (cond v (Some j) (cond w (Some k) (cond t (Some l) None))))))) ≡ Some p
    → (p.0 ≡ f.name) ⊎ (p.0 ≡ g.name) ⊎ (p.0 ≡ h.name) ⊎ (p.0 ≡ i.name) ⊎ (p.0 ≡ j.name) ⊎ (p.0 ≡ k.name) ⊎ (p.0 ≡ l.name)
of_seven f g h i j k l true y z u v w t words p is = inl (ap name_in (sym is))
of_seven f g h i j k l false true z u v w t words p is = inr (inl (ap name_in (sym is)))
of_seven f g h i j k l false false true u v w t words p is = inr (inr (inl (ap name_in (sym is))))
of_seven f g h i j k l false false false true v w t words p is = inr (inr (inr (inl (ap name_in (sym is)))))
of_seven f g h i j k l false false false false true w t words p is = inr (inr (inr (inr (inl (ap name_in (sym is))))))
of_seven f g h i j k l false false false false false true t words p is = inr (inr (inr (inr (inr (inl (ap name_in (sym is)))))))
of_seven f g h i j k l false false false false false false true words p is = inr (inr (inr (inr (inr (inr (ap name_in (sym is)))))))
of_seven f g h i j k l false false false false false false false words p is = cc

abbrev IsCommand : List ℕ → Type 0
IsCommand name = (name ≡ codes "feed") ⊎ (name ≡ codes "serve") ⊎ (name ≡ codes "import-setup") ⊎ (name ≡ codes "import-counts") ⊎ (name ≡ codes "report") ⊎ (name ≡ codes "audit") ⊎ (name ≡ codes "migrate")

one_of : (stop : Option (List ℕ × List (List ℕ))) (p : List ℕ × List Row) → entered (built commands) stop ≡ Some p
    → IsCommand p.0
one_of None p is = cc
one_of (Some s) p is = of_seven _ _ _ _ _ _ _ _ _ _ _ _ _ _ s.1 p is

abbrev stop_in : List (List ℕ) → Option (List ℕ × List (List ℕ))
stop_in words = stop_after (built commands).top.rules (names_of (built commands)) (argument_words commands words)

is_named : (words : List (List ℕ)) → told_of words ≡ [] → is_some (named_by words) ≡ true
unfolding told_of named_by
is_named words none = level_wants _ _ _ (is_some (entered (built commands) (stop_in words))) _ none

is_one_of : (words : List (List ℕ)) (p : List ℕ × List Row) → named_by words ≡ Some p → IsCommand p.0
unfolding named_by
is_one_of words p is = one_of (stop_in words) p is

abbrev both : {X : Type 0} → (X → List ℕ) → (X → List Row) → X → List ℕ × List Row
both f g x = (f x, g x)

both_of : {X : Type 0} (f : X → List ℕ) (g : X → List Row) (o : Option X) (n : List ℕ) (r : List Row) → Some n ≡ option_map f o
    → Some r ≡ option_map (λ (p : List ℕ × List Row). p.1) (option_map (both f g) o) → option_map (both f g) o ≡ Some (n, r)
both_of f g None n r a b = cc
both_of f g (Some x) n r a b = cc

rows_named : (m : ArgMatches) (n : List ℕ) (r : List Row) → Some n ≡ subcommand_name_of m → Some r ≡ option_map (λ p. p.1) (subcommand_rows_of m)
    → subcommand_rows_of m ≡ Some (n, r)
rows_named m n r a b = both_of _ _ (out-ArgMatches m).subcommand n r a b

other : {A : Type 0} (wanted name : List ℕ) → name ≡ wanted → bytes_eq name wanted ≡ false → A
other wanted name is none = absurd (true≢false (sym ((bytes_eq-Decides name wanted).1 is) ∙ none))

pub unreachable-requires : goal.unreachable-requires
unreachable-requires c =
    let words = c.requires.named.0 in
    let some : is_some (named_by words) ≡ true = is_named words c.requires.named.1 in
    let none : is_some (subcommand_rows_of c.args.matches.now) ≡ false = search rules in
    absurd (true≢false (sym some ∙ ap is_some (sym c.requires.named.2) ∙ none))

pub returns-in-Some-7-clause-asks : goal.returns-in-Some-7-clause-asks
returns-in-Some-7-clause-asks c = λ words none is.
    let rows = rows_of (found_of c.in-Some.found.now) in
    let name = c.in-Some.name.now in
    let names : Some name ≡ subcommand_name_of c.args.matches.now = search rules in
    let finds : Some rows ≡ option_map (λ p. p.1) (subcommand_rows_of c.args.matches.now) = search rules in
    let is_both : named_by words ≡ Some (name, rows) = sym is ∙ rows_named c.args.matches.now name rows names finds in
    let no_audit : bytes_eq name (codes "audit") ≡ false = search rules in
    let no_migration : bytes_eq name (codes "migrate") ≡ false = search rules in
    let no_setup : bytes_eq name (codes "import-setup") ≡ false = search rules in
    let no_counts : bytes_eq name (codes "import-counts") ≡ false = search rules in
    let no_serve : bytes_eq name (codes "serve") ≡ false = search rules in
    let no_report : bytes_eq name (codes "report") ≡ false = search rules in
    elim (is_one_of words (name, rows) is_both) [
      | inl is_it ↦ c.feed_of.ensures.asks words (none, is_both ∙ ap (λ n. Some (n, rows)) is_it)
      | inr (inl is_it) ↦ other (codes "serve") name is_it no_serve
      | inr (inr (inl is_it)) ↦ other (codes "import-setup") name is_it no_setup
      | inr (inr (inr (inl is_it))) ↦ other (codes "import-counts") name is_it no_counts
      | inr (inr (inr (inr (inl is_it)))) ↦ other (codes "report") name is_it no_report
      | inr (inr (inr (inr (inr (inl is_it))))) ↦ other (codes "audit") name is_it no_audit
      | inr (inr (inr (inr (inr (inr is_it))))) ↦ other (codes "migrate") name is_it no_migration
    ]
