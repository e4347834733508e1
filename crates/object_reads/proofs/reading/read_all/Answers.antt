use Rattle.std.proofs.Common.{◌-◌, length, arith}
use Rattle.object_reads.specs.Sources.{listed}
use Rattle.object_reads.proofs.Analysing.{listed_long}
use Rattle.object_reads.proofs.reading.read_all.Goals as goal

pub returns-clause-read : goal.returns-clause-read
returns-clause-read g c = λ all holds.
    let it = c.args.sources.now in
    let long = listed_long it.objects.now all it.numbers.now it.end it.each it.within in
    let read = c.in_ok-outs.ensures.read all holds in
    record {
      read = c.all_read.ensures.read c.args.target it.first (listed it all) (omega (arith, long, it.order)) (omega (arith, long, read.0), λ k o at. (read.1 k o at).0);
      names = c.all_read.ensures.names c.args.named (it.end - it.first) (read.0, λ k o at. (read.1 k o at).1);
    }
