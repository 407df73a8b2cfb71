-- Each return rewrites with what the new file turned out to be.
use mathlib.Core.Path.{ap, ◌∙◌}
use Rattle.model.specs.Easing.{easing_number}
use Rattle.tablefile.specs.Periodic.{few_periodic}
use Rattle.filecalls.proofs.eased_from.Goals as goal

pub compare-requires : goal.compare-requires
compare-requires c =
    (c.requires, few_periodic _ c.read_periodic-contents.ensures c.in-Ok.is)

pub returns-in-Err : goal.returns-in-Err
returns-in-Err c =
    rw (← c.read_periodic-contents.ensures, c.in-Err.is) c.refused_file.ensures

pub returns-in-Ok : goal.returns-in-Ok
returns-in-Ok c =
    rw (← c.read_periodic-contents.ensures, c.in-Ok.is) (c.easing_number.ensures ∙ ap easing_number c.compare.ensures)
