use Rattle.desk_types.proofs.Common.{[], ◌++◌, ◌+◌, ◌∷◌, ◌≡◌, Appends, Bool, cond, inner_of, List, subst, sym}
use Rattle.desk_types.proofs.Common.{ℕ}
use Rattle.desk_feed.proofs.AnsweredLines.{one_answered}
use Rattle.desk_feed.specs.{LineAnswers.line_told, Lines.without_return, Stream.Answered, Verdicts.is_refused}
use Rattle.desk_feed.proofs.feeding.serve_line.Goals as goal

pub returns-in_ok-send_line-clause-answers : goal.returns-in_ok-send_line-clause-answers
returns-in_ok-send_line-clause-answers g c = λ bytes holds G stands trusts.
    let a = c.in-Some.ensures.answer bytes holds G stands trusts in
    let H' = a.0 in
    let mark = a.2.0 in
    let out = g.W.Write.contents (inner_of c.args.output.now) in
    let out' = g.W.Write.contents (inner_of c.send_line.new.wire) in
    let went = subst (λ (l : List ℕ). Appends out out' (l ++ 10 ∷ [])) c.text.ensures c.in_ok-send_line.ensures.ok in
    let n = c.args.served.now.refused in
    let counted : c.count.new.self.refused ≡ cond (is_refused (line_told c.in-Some.answer)) (n + 1) n = subst (λ (b : Bool). c.count.new.self.refused ≡ cond b (n + 1) n) c.is_refused.ensures c.count.ensures.refused in (
      H',
      a.1,
      (
        mark ∷ [],
        subst (λ (ls : List (List ℕ)). Answered G.rules G.greatest ls (mark ∷ []) G.history out c.args.served.now H' out' c.count.new.self) (sym a.2.1)
            (one_answered G.rules G.greatest mark G.history H' (without_return bytes) out out' c.args.served.now c.count.new.self (line_told c.in-Some.answer) a.2.2 a.2.3 went c.count.ensures.answered counted),
      ),
    )
