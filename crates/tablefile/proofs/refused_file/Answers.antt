use Rattle.tablefile.proofs.refused_file.Goals as goal

pub returns : goal.returns
returns c = cc
