use Rattle.gateway_http.proofs.StoreReports.{keeps_load, keeps_loaded, keeps_read}
use Rattle.gateway_http.proofs.store.report_of.Goals as goal

pub returns-in-BoardTrace-clause-keeps : goal.returns-in-BoardTrace-clause-keeps
returns-in-BoardTrace-clause-keeps g c = keeps_read g.S.Store g.D.Desk.Stands c.args.store.now c.board_trace.new.store
    c.requires.stands c.board_trace.ensures.reads

pub returns-in-LotTrace-clause-keeps : goal.returns-in-LotTrace-clause-keeps
returns-in-LotTrace-clause-keeps g c = keeps_read g.S.Store g.D.Desk.Stands c.args.store.now c.lot_trace.new.store
    c.requires.stands c.lot_trace.ensures.reads

pub returns-in_err-ready-in-ReelCard-clause-keeps :
    goal.returns-in_err-ready-in-ReelCard-clause-keeps
returns-in_err-ready-in-ReelCard-clause-keeps g c = keeps_load g.S.Store g.D.Desk.Stands c.args.store.now c.ready.new.self
    c.ready.ensures.makes_desk c.ready.ensures.others

pub returns-in_ok-ready-in-ReelCard-clause-keeps : goal.returns-in_ok-ready-in-ReelCard-clause-keeps
returns-in_ok-ready-in-ReelCard-clause-keeps g c = keeps_loaded g.S.Store g.D.Desk.Stands c.args.store.now c.ready.new.self
    c.reel_card.new.store c.ready.ensures.makes_desk c.ready.ensures.others
    c.in_ok-ready-in-ReelCard.ensures.ok c.reel_card.ensures.makes_desk

pub returns-in_err-ready-in-SlotList-clause-keeps :
    goal.returns-in_err-ready-in-SlotList-clause-keeps
returns-in_err-ready-in-SlotList-clause-keeps g c = keeps_load g.S.Store g.D.Desk.Stands c.args.store.now c.ready-in-SlotList.new.self
    c.ready-in-SlotList.ensures.makes_desk c.ready-in-SlotList.ensures.others

pub returns-in_ok-ready-in-SlotList-clause-keeps : goal.returns-in_ok-ready-in-SlotList-clause-keeps
returns-in_ok-ready-in-SlotList-clause-keeps g c = keeps_loaded g.S.Store g.D.Desk.Stands c.args.store.now c.ready-in-SlotList.new.self
    c.slot_list.new.store c.ready-in-SlotList.ensures.makes_desk c.ready-in-SlotList.ensures.others
    c.in_ok-ready-in-SlotList.ensures.ok c.slot_list.ensures.makes_desk

pub returns-in_err-ready-in-KitList-clause-keeps : goal.returns-in_err-ready-in-KitList-clause-keeps
returns-in_err-ready-in-KitList-clause-keeps g c = keeps_load g.S.Store g.D.Desk.Stands c.args.store.now c.ready-in-KitList.new.self
    c.ready-in-KitList.ensures.makes_desk c.ready-in-KitList.ensures.others

pub returns-in_ok-ready-in-KitList-clause-keeps : goal.returns-in_ok-ready-in-KitList-clause-keeps
returns-in_ok-ready-in-KitList-clause-keeps g c = keeps_loaded g.S.Store g.D.Desk.Stands c.args.store.now c.ready-in-KitList.new.self
    c.kit_list.new.store c.ready-in-KitList.ensures.makes_desk c.ready-in-KitList.ensures.others
    c.in_ok-ready-in-KitList.ensures.ok c.kit_list.ensures.makes_desk

pub returns-in-Ok-clause-keeps : goal.returns-in-Ok-clause-keeps
returns-in-Ok-clause-keeps g c = keeps_read g.S.Store g.D.Desk.Stands c.args.store.now c.overdue_list.new.store
    c.requires.stands c.overdue_list.ensures.reads

pub returns-in-Err-clause-keeps : goal.returns-in-Err-clause-keeps
returns-in-Err-clause-keeps g c = keeps_read g.S.Store g.D.Desk.Stands c.args.store.now c.overdue_list.new.store
    c.requires.stands c.overdue_list.ensures.reads
