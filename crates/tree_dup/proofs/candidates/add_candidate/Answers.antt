use Rattle.tree_dup.proofs.Prelude.{List, [], ◌∷◌, ◌++◌, sym, ap, ◌∙◌, File}
use Rattle.tree_dup.proofs.Entered.{passed_by, entered, alike_more}
use Rattle.tree_dup.proofs.candidates.add_candidate.Goals as goal

pub returns-in_default-clause-on : goal.returns-in_default-clause-on
returns-in_default-clause-on c = λ tree list at counts there told h.
    passed_by list at c.args.entry.now there tree c.args.files.now.items (sym (c.shared_size.ensures list counts) ∙ c.in_default.is) h

pub returns-clause-on : goal.returns-clause-on
returns-clause-on c = λ tree list at counts there told h.
    entered list at c.args.entry.now there tree c.in-Some.size (sym (c.shared_size.ensures list counts) ∙ c.in-Some.is) told
    c.args.files.now.items c.push.new.self.items c.unhashed-file.result (c.unhashed-file.ensures.path ∙ c.in_ok-path.ensures) c.unhashed-file.ensures.size
    (c.in_ok-push.ensures.items ∙ ap (λ (fs : List File). fs ++ c.unhashed-file.result ∷ []) c.make_room.ensures) h

pub returns-clause-alike : goal.returns-clause-alike
returns-clause-alike c = λ e.
    alike_more c.args.files.now.items c.push.new.self.items c.unhashed-file.result
    (c.in_ok-push.ensures.items ∙ ap (λ (fs : List File). fs ++ c.unhashed-file.result ∷ []) c.make_room.ensures) c.unhashed-file.ensures.alike e
