use Rattle.desk_types.proofs.Common.{◌++◌, ◌∙◌, ◌≡◌, ◌≢◌, ap, codes, find, IfSome, List, None, Option, refl}
use Rattle.desk_types.proofs.Common.{same, same-true, Some, subst, sym, true, word_text, words, ℕ}
use Rattle.cfx_profile.specs.Word.{message_name, word_of}
use Rattle.desk_types.proofs.Words.{found_passes, word_in, word_in-is}
use Rattle.desk_types.specs.declared.stored_word.Word.{Word}
use Rattle.std.proofs.{lemmas.Bool.Decides.Decides-eqb, lemmas.Slice.Eq.strip_prefix_is}
use Rattle.cfx_profile.proofs.word.word_of.Goals as goal

-- Behind the prefix stands the text of a kind.
of_text : (text : List ℕ) → word_of (codes "TraceDesk." ++ text) ≡ word_in text
unfolding word_of message_name
of_text text = refl

without_prefix : (name : List ℕ) → ((rest : List ℕ) → name ≢ codes "TraceDesk." ++ rest) → word_of name ≡ None
unfolding word_of message_name
without_prefix name other =
    let test = λ (word : Word). same (message_name word) name in
    elim (find test words) as (λ (found : Option Word). find test words ≡ found → found ≡ None) [
      | None ↦ λ _. refl
      | Some word ↦ λ is. absurd (other (word_text word) (sym (same-true (message_name word) name (subst (λ (r : Option Word). IfSome r (λ w. test w ≡ true)) is (found_passes test words)))))
    ] refl

pub returns-in_err-strip_prefix : goal.returns-in_err-strip_prefix
returns-in_err-strip_prefix c =
    let bytes = c.as_bytes.result.now in
    let other = strip_prefix_is Decides-eqb bytes (codes "TraceDesk.") None c.in_err-strip_prefix.ensures.cases in
    c.from_residual.ensures ∙ sym (ap word_of (sym c.as_bytes.ensures.value) ∙ without_prefix bytes other)

pub returns : goal.returns
returns c =
    let bytes = c.as_bytes.result.now in
    let rest = c.in_ok-strip_prefix.field-0 in
    let stands = strip_prefix_is Decides-eqb bytes (codes "TraceDesk.") (Some rest) c.in_ok-strip_prefix.ensures.cases in
    word_in-is rest.now c.read.result c.read.ensures.read c.read.ensures.refused
    ∙ sym (ap word_of (sym c.as_bytes.ensures.value ∙ stands) ∙ of_text rest.now)
