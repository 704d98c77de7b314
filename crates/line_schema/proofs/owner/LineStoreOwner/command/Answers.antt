use Rattle.desk_types.proofs.Common.{◌≡◌, ap, refl, subst, sym, true}
use Rattle.desk_laws.proofs.Common.{Rules, Stamped, Two}
use Rattle.desk_answers.specs.Ledger.{IsAnswer, Ledger, ledger_after}
use Rattle.desk_answers.specs.declared.answer.Answer.{Answer}
use Rattle.desk_answers.specs.declared.answer.Answer.TheVariants.{Accepted, DeskFull, IdReused, Refused}
use Rattle.desk_answers.specs.declared.answer.Answer.TheVariants.{Unavailable}
use Rattle.line_schema.specs.Stands.{Kept, kept_after, ledger, Stands as StandsFor}
use Rattle.line_schema.proofs.owner.LineStoreOwner.command.Goals as goal

-- The history is represented by rules Two, and only it changes.
after : (P : Kept → Type 0) (K : Kept) (s : Stamped) (a : Answer) → P (kept_after K s a) → ((ledger_after (ledger K) s a).rules ≡ Two) × P (record { greatest = (ledger_after (ledger K) s a).greatest; history = (ledger_after (ledger K) s a).history; own = K.own })
after P K s (Accepted n text) h = (refl, h)
after P K s (Refused r) h = (refl, h)
after P K s (IdReused n) h = (refl, h)
after P K s DeskFull h = (refl, h)
after P K s Unavailable h = (refl, h)

by_two : (L : Ledger) → L.rules ≡ Two → ledger (record { greatest = L.greatest; history = L.history; own = true }) ≡ L
by_two L two = ap (λ (rules : Rules). let G : Ledger = record { rules = rules; greatest = L.greatest; history = L.history } in G) (sym two)

pub returns-clause-answer : goal.returns-clause-answer
returns-clause-answer g c L stands clean = subst (λ (G : Ledger). IsAnswer G c.args.stamped.now c.command.result) (by_two L stands.0) (c.command.ensures.answers _ stands.1 clean refl).is

pub returns-clause-stands : goal.returns-clause-stands
returns-clause-stands g c L stands clean =
    let s = c.args.stamped.now in
    let a = c.command.result in
    let Stands = StandsFor g.S.Store g.D.Desk.Stands c.command.new.self in
    subst (λ (G : Ledger). ((ledger_after G s a).rules ≡ Two) × Stands (record { greatest = (ledger_after G s a).greatest; history = (ledger_after G s a).history; own = true })) (by_two L stands.0)
    (after Stands (record { greatest = L.greatest; history = L.history; own = true }) s a (c.command.ensures.answers _ stands.1 clean refl).stands)
