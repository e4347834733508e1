use Rattle.std.proofs.Common.{length, arith}
use Rattle.object_reads.proofs.Analysing.{listed_long}
use Rattle.object_reads.proofs.reading.read_next.Goals as goal

pub returns : goal.returns
returns g c = λ all holds.
    let it = c.args.sources.now in
    let long = listed_long it.objects.now all it.numbers.now it.end it.each it.within in
    let read = c.in_ok-outs.ensures.read all holds in (
      record {
        some = c.batch_end-end.ensures.0;
        within = omega (arith, long, c.batch_end-end.ensures.1);
        given = (read.0, λ k o at. (read.1 k o at).0);
      },
      c.in_ok-outs.ensures.left all holds,
    )
