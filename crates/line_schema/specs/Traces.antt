-- The parts of a store that a trace leaves unchanged.
use Rattle.std.specs.Prelude.{Option}
use Rattle.line_traces.specs.declared.working.Working.{Working}
use Rattle.line_schema.specs.declared.store.LineStore.{LineStore}

-- The working state, if it is loaded.
abbrev pub working_of : {S D : Type 0} → LineStore S D → Option (Working D)
working_of store = store.working
