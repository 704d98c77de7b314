use Rattle.desk_types.proofs.Common.{◌++◌, ◌∙◌, ◌≡◌, ◌≢◌, ap, codes, false, List, None, refl, same, same-true, Some}
use Rattle.desk_types.proofs.Common.{sym, true, word_text, ℕ}
use Rattle.desk_types.specs.declared.stored_word.Word.{Word}
use Rattle.cfx_profile.specs.Word.{message_name}
use Rattle.std.proofs.{lemmas.Bool.Decides.Decides-eqb, lemmas.Slice.Eq.strip_prefix_is}
use Rattle.line_entries.proofs.unread.is_named.Goals as goal

-- Behind the prefix stands the text of a kind.
behind : (word : Word) (rest : List ℕ)
    → same (message_name word) (codes "TraceDesk." ++ rest) ≡ same (word_text word) rest
unfolding message_name
behind word rest = refl

without_prefix : (word : Word) (name : List ℕ) → ((rest : List ℕ) → name ≢ codes "TraceDesk." ++ rest)
    → same (message_name word) name ≡ false
unfolding message_name
without_prefix word name other =
    elim (same (message_name word) name) as
    (λ b. same (message_name word) name ≡ b → same (message_name word) name ≡ false) [
      | true ↦ λ is. absurd (other (word_text word) (sym (same-true (message_name word) name is)))
      | false ↦ λ is. is
    ] refl

pub returns-in-Some : goal.returns-in-Some
returns-in-Some c =
    let word = c.args.word in
    let rest = c.in-Some.rest.now in
    let stands = strip_prefix_is Decides-eqb c.as_bytes.result.now (codes "TraceDesk.") (Some c.in-Some.rest)
    c.in-Some.ensures.cases in
    c.eq.ensures ∙ ap (λ text. same text rest) (c.as_bytes-in-Some.ensures.value ∙ c.as_str.ensures)
    ∙ sym (ap (same (message_name word)) (sym c.as_bytes.ensures.value ∙ stands) ∙ behind word rest)

pub returns-in-None : goal.returns-in-None
returns-in-None c =
    let other = strip_prefix_is Decides-eqb c.as_bytes.result.now (codes "TraceDesk.") None c.in-None.ensures.cases in
    sym (ap (same (message_name c.args.word)) (sym c.as_bytes.ensures.value)
    ∙ without_prefix c.args.word c.as_bytes.result.now other)
