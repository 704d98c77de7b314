use Rattle.desk_types.proofs.Common.{◌++◌, ◌∙◌, ◌≡◌, All-same, ap, entry_of, IsMinute, length, rules, same}
use Rattle.desk_types.proofs.Common.{sym, takes_by}
use Rattle.desk_types.specs.declared.change.Change.{Change}
use Rattle.state_rows.proofs.{Installs.keys-installed, Keys.keys-noted, Minutes.count-accepted}
use Rattle.state_rows.proofs.{Minutes.minutes-accepted}
use Rattle.state_rows.specs.{Lists.kept_at, Lists.keys_of_installs, Lists.minute_in, Noting.keys_in}
use Rattle.std.proofs.lemmas.List.Elements.{All-push}
use Rattle.state_rows.proofs.lists.TraceLists.note.Goals as goal

pub returns : goal.returns
returns c = record {
  listed = λ H is number change.
      let s = c.args.change.now.stamped in
      let e = entry_of H s in
      let n = c.args.number in
      let takes = c.takes-takes.result.now in
      let took : takes ≡ takes_by H e.effective s.command = c.takes-takes.ensures ∙ ap (λ (x : Change). x.takes) change in
      let count : c.in-Ok.pieces ≡ length takes = search rules in
      let minutes = c.args.self.now.minutes.items in
      let minute : c.get.result ≡ e.effective = c.get.ensures.value ∙ c.minute.ensures ∙ ap (λ (x : Change). x.minute) change in
      let pushed = c.in_ok-push.ensures.items in
      record {
        lots = λ lot. keys-noted (λ p. same p.lot lot) H s n takes _ _ (c.in_ok-note_pieces.ensures.lots lot e.effective) (is.lots lot) number took;
        boards = λ board.
            let installed =
            ap (keys_in (λ p. same p.board board) n e.effective 1) took ∙ keys-installed H e.effective n c.in-Ok.pieces board s.command (count ∙ ap length took) in
            keys-noted (λ p. same p.board board) H s n takes _ _
            (c.in_ok-note_install.ensures.keys board ∙ ap (λ ks. keys_of_installs (kept_at c.args.self.now.boards board) ++ ks) (sym installed)) (is.boards board) number took;
        installs = λ board. c.in_ok-note_install.ensures.pieces board (is.installs board);
        overdue = keys-noted (λ p. p.overdue) H s n takes _ _ (c.in_ok-note_pieces.ensures.overdue e.effective) is.overdue number took;
        minutes = λ k. ap (λ ms. minute_in ms k) pushed ∙ minutes-accepted H s minutes c.get.result is.count minute is.minutes k;
        count = ap length pushed ∙ count-accepted H s minutes c.get.result is.count;
        in_range = All-same IsMinute _ _ pushed (All-push IsMinute minutes c.get.result is.in_range c.get.ensures.range);
      };
}
