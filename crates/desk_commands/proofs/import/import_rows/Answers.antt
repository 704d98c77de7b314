use Rattle.desk_types.proofs.Common.{◌≡◌, Bool, false, inl, inner_of, inr, List, refl, rules, subst, sym}
use Rattle.desk_types.proofs.Common.{true, ℕ}
use Rattle.desk_answers.specs.Ledger.{ForLists}
use Rattle.desk_commands.proofs.ImportsOfFiles.{says_all}
use Rattle.desk_feed.specs.{Folder.IsRead, Import.IsAnswered, Import.IsCutOff}
use Rattle.imports.specs.Import.{command_said}
use Rattle.desk_commands.proofs.import.import_rows.Goals as goal

pub returns-in-Ok-true-clause-ends : goal.returns-in-Ok-true-clause-ends
returns-in-Ok-true-clause-ends g c =
    let file = g.F.Folder.holds c.args.folder.now c.args.from.now in
    let bytes = c.deref.result.now in
    let out = g.W.Write.contents (inner_of c.args.output.now) in
    let out' = g.W.Write.contents (inner_of c.serve_import.new.output) in
    let read : IsRead file bytes = subst (λ (b : List ℕ). IsRead file b) (sym c.deref.ensures.value) c.in-Ok.ensures.bytes in
    let told : c.in-Ok-true.field-0 ≡ true = search rules in
    let all = subst (λ (refused : Bool). ForLists g.L.Owner.Stands g.L.Owner.Trusts c.args.owner.now c.serve_import.new.owner (IsAnswered (command_said c.args.import.now bytes) out out' refused)) told c.in-Ok-true.ensures.answers in
    let answered = says_all g.L.Owner.Stands g.L.Owner.Trusts c.args.owner.now c.serve_import.new.owner c.args.import.now file bytes (λ said. IsAnswered said out out' true) read all in record {
      status = inr (inl refl);
      done = search rules;
      refused = λ is. answered;
      no_desk = search rules;
      untouched = search rules;
      failed = search rules;
      well = search rules;
    }

pub returns-in-Ok-false-clause-ends : goal.returns-in-Ok-false-clause-ends
returns-in-Ok-false-clause-ends g c =
    let file = g.F.Folder.holds c.args.folder.now c.args.from.now in
    let bytes = c.deref.result.now in
    let out = g.W.Write.contents (inner_of c.args.output.now) in
    let out' = g.W.Write.contents (inner_of c.serve_import.new.output) in
    let read : IsRead file bytes = subst (λ (b : List ℕ). IsRead file b) (sym c.deref.ensures.value) c.in-Ok.ensures.bytes in
    let told : c.in-Ok-false.field-0 ≡ false = search rules in
    let all = subst (λ (refused : Bool). ForLists g.L.Owner.Stands g.L.Owner.Trusts c.args.owner.now c.serve_import.new.owner (IsAnswered (command_said c.args.import.now bytes) out out' refused)) told c.in-Ok-false.ensures.answers in
    let answered = says_all g.L.Owner.Stands g.L.Owner.Trusts c.args.owner.now c.serve_import.new.owner c.args.import.now file bytes (λ said. IsAnswered said out out' false) read all in record {
      status = inl refl;
      done = λ is. answered;
      refused = search rules;
      no_desk = search rules;
      untouched = search rules;
      failed = search rules;
      well = search rules;
    }

pub returns-clause-ends : goal.returns-clause-ends
returns-clause-ends g c =
    let file = g.F.Folder.holds c.args.folder.now c.args.from.now in
    let bytes = c.deref.result.now in
    let out = g.W.Write.contents (inner_of c.args.output.now) in
    let out' = g.W.Write.contents (inner_of c.serve_import.new.output) in
    let read : IsRead file bytes = subst (λ (b : List ℕ). IsRead file b) (sym c.deref.ensures.value) c.in-Ok.ensures.bytes in
    let cut = says_all g.L.Owner.Stands g.L.Owner.Trusts c.args.owner.now c.serve_import.new.owner c.args.import.now file bytes (λ said. IsCutOff said out out') read c.in-Err.ensures.answers in record {
      status = inr (inr (inr refl));
      done = search rules;
      refused = search rules;
      no_desk = search rules;
      untouched = search rules;
      failed = λ is. inl ((c.in-Err.ensures.writes.failed, c.tell_line-in-Err.ensures), cut);
      well = search rules;
    }
