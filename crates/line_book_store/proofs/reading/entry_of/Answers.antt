use Rattle.desk_types.proofs.Common.{◌∙◌, ◌≡◌, err_from_is_err_and, length, refl, rules}
use Rattle.line_book_store.proofs.Columns.{is_text, twelve}
use Rattle.line_book_store.proofs.reading.entry_of.Goals as goal

pub returns-clause-ok : goal.returns-clause-ok
returns-clause-ok c =
    let all : length c.args.row.now ≡ 12 = search rules in
    twelve c.args.row.now all
    ∙ rw (c.in_ok-get.ensures.ok.1, c.in_ok-get-2.ensures.ok.1, c.in_ok-get-3.ensures.ok.1, c.in_ok-get-4.ensures.ok.1, c.in_ok-get-5.ensures.ok.1, c.in_ok-get-6.ensures.ok.1, c.in_ok-get-7.ensures.ok.1, c.in_ok-get-8.ensures.ok.1, c.in_ok-get-9.ensures.ok.1, c.in_ok-get-10.ensures.ok.1, c.in_ok-get-11.ensures.ok.1, c.in_ok-get-12.ensures.ok.1) refl

pub returns-in_err-get-10-clause-err : goal.returns-in_err-get-10-clause-err
returns-in_err-get-10-clause-err c =
    let it = c.in_err-get-10.ensures in
    let p = err_from_is_err_and c.from_residual-in_err-get-10.result c.from_residual-in_err-get-10.ensures.1 in
    rw (p.1, p.2) (λ lack entry numbers same. let text = is_text entry.word in search (rules, text, it.index, it.kind, it.which, it.named))
