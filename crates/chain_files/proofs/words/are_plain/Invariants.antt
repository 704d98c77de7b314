use Rattle.std.proofs.Common.{drop, map, string_bytes}
use Rattle.chain_files.specs.Words.{ArePlain}
use Rattle.chain_files.proofs.words.are_plain.Given as goal

abbrev pub invariant-loop-word : goal.invariant-loop-word
invariant-loop-word l = record {
  rest : ArePlain (map string_bytes l.words) → ArePlain (drop l.word-index (map string_bytes l.words));
  all : ArePlain (drop l.word-index (map string_bytes l.words)) → ArePlain (map string_bytes l.words);
}
