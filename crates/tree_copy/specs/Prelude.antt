-- The names that the contracts of the acts at one path cite, passed on from one place. Declares nothing.
pub use Rattle.level_work.specs.Acts.{IsDone}
pub use Rattle.tree_copy.specs.Causes.{LookMeans, ShowsFate, WasWritten, refusal_means}
pub use Rattle.tree_copy.specs.PrivateActs.{ByReader, HasLooked, IsDirMade, IsFilled, IsOpenTop, ShowsFilled, ShowsSpared, Spared, Stepped}
pub use Rattle.tree_copy.specs.PrivateActs.{TellsFate, is_taken}
pub use Rattle.tree_copy.specs.PrivateDeeds.{CopyLink, MakeFile}
pub use Rattle.tree_copy.specs.PrivateNodes.{Looked}
