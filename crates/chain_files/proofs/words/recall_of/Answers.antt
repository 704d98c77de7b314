use Rattle.std.proofs.Common.{Bool, map, refl, string_bytes, subst}
use Rattle.chain_files.specs.Words.{HasName}
use Rattle.chain_files.proofs.words.recall_of.Goals as goal

pub returns : goal.returns
returns c words has = (
  c.args.chosen.part,
  (
    words,
    refl,
    subst (λ (b : Bool). HasName words c.args.whose c.args.word.now
        (record { part = c.args.chosen.part; with_pieces = b; links = c.args.chosen.links })
        (map string_bytes c.args.files.now)) c.if-chosen.false has,
  ),
)

pub returns-then-chosen : goal.returns-then-chosen
returns-then-chosen c words has = (
  c.args.chosen.part,
  (
    words,
    refl,
    subst (λ (b : Bool). HasName words c.args.whose c.args.word.now
        (record { part = c.args.chosen.part; with_pieces = b; links = c.args.chosen.links })
        (map string_bytes c.args.files.now)) c.if-chosen.true has,
  ),
)
