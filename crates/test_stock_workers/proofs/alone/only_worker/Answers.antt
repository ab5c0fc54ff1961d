use Rattle.std.proofs.Common.{List, ℕ, All, map, sym, ap, subst, ◌∙◌}
use Rattle.std.proofs.lemmas.List.Elements.{All-map}
use Rattle.top_cell.specs.Boards.{IsOn}
use Rattle.stock_workers.specs.Working.{Working, WritersAt, places_of}
use Rattle.test_stock_workers.proofs.OnlyWorker.{only_codes}
use Rattle.test_stock_workers.proofs.alone.only_worker.Goals as goal

pub returns-clause-worker : goal.returns-clause-worker
returns-clause-worker g c =
    c.in_ok-worker.ensures.of c.args.day.now.payloads c.requires.parts
    (subst (λ (ls : List ℕ). WritersAt c.args.day.now.payloads (λ k. 0) ls c.args.waiting.writers.items) (sym (only_codes c.args.day.now.payloads c.args.parts.now c.requires.parts c.requires.one)) c.requires.waits.none_done)

pub returns-clause-board : goal.returns-clause-board
returns-clause-board g c =
    subst (λ (w : Working). All (IsOn c.args.waiting.board) (places_of w)) (sym c.in_ok-worker.ensures.first)
    (All-map (IsOn c.args.waiting.board) (λ w. w.place) c.args.waiting.writers.items c.requires.waits.on_board)
