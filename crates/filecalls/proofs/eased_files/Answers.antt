-- Each return rewrites with what the old file turned out to be.
use Rattle.tablefile.specs.Periodic.{few_periodic}
use Rattle.filecalls.proofs.eased_files.Goals as goal

pub eased_from-requires : goal.eased_from-requires
eased_from-requires c = few_periodic _ c.read_periodic-contents.ensures c.in-Ok.is

pub returns-in-Err : goal.returns-in-Err
returns-in-Err c =
    rw (← c.read_periodic-contents.ensures, c.in-Err.is) c.refused_file.ensures

pub returns-in-Ok : goal.returns-in-Ok
returns-in-Ok c =
    rw (← c.read_periodic-contents.ensures, c.in-Ok.is) c.eased_from.ensures
