use Rattle.desk_types.proofs.Common.{◌∙◌, ap, Appends, codes, decimal, inner_of, None, on_err_weaker, rules}
use Rattle.desk_types.proofs.Common.{subst}
use Rattle.desk_answers.specs.{Sent.SendsFront, declared.serving.Served.Served}
use Rattle.desk_commands.proofs.ConnectionLines.{fourth, second, third}
use Rattle.desk_commands.specs.Connections.{connection_line, fault_word, served_of}
use Rattle.desk_commands.proofs.serving.tell.Goals as goal

pub returns-in_err-send-2-clause-front : goal.returns-in_err-send-2-clause-front
returns-in_err-send-2-clause-front g c =
    let contents = g.W.Write.contents in
    let out₀ = contents (inner_of c.args.output.now) in
    let out₁ = contents (inner_of c.send.new.wire) in
    let out₂ = contents (inner_of c.send-2.new.wire) in
    let ended = c.args.ended.now in
    let number = subst (Appends out₀ out₁) (c.as_bytes.ensures.value ∙ c.format.ensures.text) c.in_ok-send.ensures.ok in
    let told : SendsFront out₀ out₂ (connection_line c.args.number ended) =
    second out₀ out₁ out₂ None None (decimal c.args.number) (codes " ") (decimal (served_of ended).answered) (fault_word ended) number c.in_err-send-2.ensures.front in
    search rules

pub returns-in_err-send-3-clause-front : goal.returns-in_err-send-3-clause-front
returns-in_err-send-3-clause-front g c =
    let contents = g.W.Write.contents in
    let out₀ = contents (inner_of c.args.output.now) in
    let out₁ = contents (inner_of c.send.new.wire) in
    let out₂ = contents (inner_of c.send-2.new.wire) in
    let out₃ = contents (inner_of c.send-3.new.wire) in
    let ended = c.args.ended.now in
    let number = subst (Appends out₀ out₁) (c.as_bytes.ensures.value ∙ c.format.ensures.text) c.in_ok-send.ensures.ok in
    let count = subst (SendsFront out₂ out₃) (c.as_bytes-2.ensures.value ∙ c.format-2.ensures.text ∙ ap (λ (s : Served). decimal s.answered) c.served_and_word.ensures.served) c.in_err-send-3.ensures.front in
    let told : SendsFront out₀ out₃ (connection_line c.args.number ended) =
    third out₀ out₁ out₂ out₃ None (decimal c.args.number) (codes " ") (decimal (served_of ended).answered) (fault_word ended) number c.in_ok-send-2.ensures.ok count in
    search rules

pub returns-clause-front : goal.returns-clause-front
returns-clause-front g c =
    let contents = g.W.Write.contents in
    let out₀ = contents (inner_of c.args.output.now) in
    let out₁ = contents (inner_of c.send.new.wire) in
    let out₂ = contents (inner_of c.send-2.new.wire) in
    let out₃ = contents (inner_of c.send-3.new.wire) in
    let out₄ = contents (inner_of c.send-4.new.wire) in
    let ended = c.args.ended.now in
    let number = subst (Appends out₀ out₁) (c.as_bytes.ensures.value ∙ c.format.ensures.text) c.in_ok-send.ensures.ok in
    let count = subst (Appends out₂ out₃) (c.as_bytes-2.ensures.value ∙ c.format-2.ensures.text ∙ ap (λ (s : Served). decimal s.answered) c.served_and_word.ensures.served) c.in_ok-send-3.ensures.ok in
    on_err_weaker c.send-4.result
    (λ word. fourth out₀ out₁ out₂ out₃ out₄ (decimal c.args.number) (codes " ") (decimal (served_of ended).answered) (fault_word ended) number c.in_ok-send-2.ensures.ok count
    (subst (SendsFront out₃ out₄) (c.as_bytes-3.ensures.value ∙ c.served_and_word.ensures.word) word)) c.send-4.ensures.front
