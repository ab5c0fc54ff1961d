use Rattle.std.proofs.Common.{arith}
use Rattle.stock_workers.proofs.WorkersTogether.{all_finished, both_ok}
use Rattle.stock_workers.proofs.fork_join.finish_all.Goals as goal

pub returns : goal.returns
returns g c =
    both_ok c.map_vec.result _ _ _ c.map_vec.ensures.len c.map_vec.ensures.each (λ made long each writer are.
    all_finished c.args.day.now.payloads c.args.parts.now writer c.args.all.items made.items are (omega (arith, long, made.ok.0, c.args.all.ok.0)) (λ k d lt.
    let job = (each k d lt).1 in
    (job.job, job.job_read, job.call.met)))
