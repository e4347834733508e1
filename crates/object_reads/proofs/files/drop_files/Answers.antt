use Rattle.object_reads.proofs.files.drop_files.Goals as goal

pub loop-k-preserved : goal.loop-k-preserved
loop-k-preserved c = (
  λ files are. c.drop_file.ensures.held c.args.source.now files c.requires.last (c.loop-k.invariant.0 files are),
  λ small. c.drop_file.ensures.small (c.loop-k.invariant.1 small),
)

pub returns-in_err-drop_file-clause-held : goal.returns-in_err-drop_file-clause-held
returns-in_err-drop_file-clause-held c = λ files are. c.drop_file.ensures.held c.args.source.now files c.requires.last (c.loop-k.invariant.0 files are)
