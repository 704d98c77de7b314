use Rattle.store_tests.proofs.tests.sending.send.Given as goal

abbrev pub invariant-loop-text : goal.invariant-loop-text
invariant-loop-text g l = g.L.Owner.Ready l.line
