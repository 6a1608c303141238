-- What a run has to do with, before and after it: files, and sinks. Our own.
use Rattle.std.specs.Prelude.{ℕ, List, Option}
use Rattle.outside.specs.Tree.{Files}
use Rattle.outside.specs.declared.plots.Plot as plot
use Rattle.outside.specs.declared.sinks.Sink as sink

-- a side: the tree that files tell, if they tell it, and how often they failed
pub record Side : Type 0 where
  pub tree : Option Files
  pub count : ℕ

abbrev pub side_with : Option Files → ℕ → Side
side_with tree count = record { tree = tree; count = count }

-- the side of files, by the words in which files of their kind tell it: for files of the kind G these are `G.Plot`
abbrev pub side_of : {F : Type 0} → plot.Ghosts F → F → Side
side_of words files = side_with (words.tree files) (words.count files)

-- a stream: the text that a sink holds, if it tells it, and how often it failed
pub record Stream : Type 0 where
  pub text : Option (List ℕ)
  pub count : ℕ

-- the stream of a sink, by the words in which sinks of its kind tell it: for sinks of the kind O these are `O.Sink`
abbrev pub stream_of : {S : Type 0} → sink.Ghosts S → S → Stream
stream_of words s = record { text = words.text s; count = words.count s }
