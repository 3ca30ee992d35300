use Rattle.std.proofs.Common.{length-set, ◌-◌, ◌+◌, arith}
use Rattle.streams.proofs.BatchLaws.{one_more, counted, kept, placed}
use Rattle.streams.proofs.batch.read_ahead.Goals as goal

pub loop-count-preserved : goal.loop-count-preserved
loop-count-preserved c =
    let l = c.loop-count in
    let e = one_more c.args.buf.now _ (c.min-most.result - l.count) (c.min-most.result - (l.count + 1)) c.reply_at.ensures c.in-Some.is (omega arith) in
    record {
      room = simp length-set l.invariant.room;
      places = simp length-set l.invariant.places;
      count = counted e l.count l.invariant.count;
      kept = kept e l.count l.words l.invariant.kept;
      next = placed e l.count l.behind l.invariant.next;
    }
