use Rattle.desk_types.proofs.Common.{◌∙◌, ◌≡◌, ap, arith, false, is_vacant, left_of, scrap_picks, sym}
use Rattle.desk_laws.proofs.Common.{Rejected}
use Rattle.judging.proofs.Reels.{scrap-live}
use Rattle.judging.proofs.ScrapPicks.{scrap-empty, scrap-enough, scrap-short}
use Rattle.judging.proofs.scraps.picks_of_scrap.Goals as goal

pub returns-then-is_vacant : goal.returns-then-is_vacant
returns-then-is_vacant g c = λ H stands.
    scrap-empty H c.args.machine.now c.args.slot.now c.args.quantity (sym (c.is_vacant.ensures H stands) ∙ c.if-is_vacant.true)

pub returns-then-scrapping-gt0 : goal.returns-then-scrapping-gt0
returns-then-scrapping-gt0 g c = λ H stands.
    let machine = c.args.machine.now in
    let slot = c.args.slot.now in
    let taken : is_vacant H machine slot ≡ false = sym (c.is_vacant.ensures H stands) ∙ c.if-is_vacant.false in
    scrap-short H machine slot (g.F.Facts.reels_on c.args.facts.now machine slot) (g.met.F.Facts.tells_live c.args.facts.now H machine slot stands) (Rejected machine slot) c.get.result c.args.quantity
    c.in_ok-scrapping.scrapping c.get.ensures.value taken (c.in_ok-scrapping.ensures H stands) c.if-scrapping-gt0.true

pub returns : goal.returns
returns g c = λ H stands.
    let machine = c.args.machine.now in
    let slot = c.args.slot.now in
    let reels = g.F.Facts.reels_on c.args.facts.now machine slot in
    let live = g.met.F.Facts.tells_live c.args.facts.now H machine slot stands in
    let taken : is_vacant H machine slot ≡ false = sym (c.is_vacant.ensures H stands) ∙ c.if-is_vacant.false in
    let scrapped = c.in_ok-scrapping.ensures H stands in (
      scrap-enough H machine slot reels live (Rejected machine slot) c.get.result c.args.quantity c.in_ok-scrapping.scrapping c.get.ensures.value taken scrapped
          (omega (arith, c.if-scrapping-gt0.false)),
      c.new.ensures ∙ scrapped.picks ∙ ap (scrap_picks (left_of H) (Rejected machine slot) reels) c.get.ensures.value
          ∙ scrap-live H machine slot reels live (Rejected machine slot) c.args.quantity,
    )
