-- What a dwalk is to do, which only private clauses cite. Our own.
use Rattle.tool_words.specs.Asked.{Asked, list, stage}
use Rattle.list_report.specs.Lists.{list_asked}
use Rattle.stage_report.specs.Stages.{stage_asked}
use Rattle.mfu_top.specs.declared.walks.WalkTask.{WalkTask}
use Rattle.mfu_top.specs.declared.walks.WalkTask.TheVariants as walk

-- what is asked for
abbrev pub asked_of : WalkTask → Asked
asked_of (walk.List task) = list (list_asked task)
asked_of (walk.Stage task) = stage (stage_asked task)
