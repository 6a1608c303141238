use Rattle.tree_remove.proofs.Prelude.{refl, Ok}
use Rattle.tree_remove.proofs.Causes.{shown}
use Rattle.tree_remove.proofs.Deeds.{done, refused}
use Rattle.tree_remove.proofs.unlinking.RemoveAct.act.Goals as goal

pub returns-in-Ok-clause-told : goal.returns-in-Ok-clause-told
returns-in-Ok-clause-told g c = done _ _ _ _ c.in-Ok.ensures.told

pub returns-in-Err-clause-told : goal.returns-in-Err-clause-told
returns-in-Err-clause-told g c = refused _ _ c.in-Err.refused _ _ _ c.in-Err.ensures.named c.fate_of.ensures.told c.in-Err.ensures.told

pub returns-in-Ok-clause-may_come : goal.returns-in-Ok-clause-may_come
returns-in-Ok-clause-may_come g c = record { before = _; answer = Ok tt; after = _; given = c.in-Ok.ensures.given; means = refl }

pub returns-in-Err-clause-may_come : goal.returns-in-Err-clause-may_come
returns-in-Err-clause-may_come g c = shown _ _ _ _ _ _ c.fate_of.result c.in-Err.ensures.given c.fate_of.ensures.means
