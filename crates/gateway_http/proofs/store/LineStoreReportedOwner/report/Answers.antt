use Rattle.desk_types.proofs.Common.{refl, true}
use Rattle.desk_answers.specs.Ledger.{Ledger}
use Rattle.line_schema.specs.Stands.{Kept}
use Rattle.gateway_http.proofs.store.LineStoreReportedOwner.report.Goals as goal

-- A store as the reports see it: the tables are its own.
abbrev own : Ledger → Kept
own G = record { greatest = G.greatest; history = G.history; own = true }

pub returns-clause-told : goal.returns-clause-told
returns-clause-told g c G stands trusts = c.report_of.ensures.told (own G) stands.1 trusts refl

pub returns-clause-stands : goal.returns-clause-stands
returns-clause-stands g c G stands trusts = (stands.0, c.report_of.ensures.stands (own G) stands.1 trusts refl)
