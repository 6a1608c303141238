use Rattle.entry_pages.proofs.Prelude.{◌≡◌, ◌∙◌, arith, subst, List, [], ◌∷◌, ◌++◌, OnOk, with_text, Entry, shared_by, unpacked}
use Rattle.entry_pages.proofs.Inverse.{IsPut, path_is, put_same, is_put, put_kept, put_told}
use Rattle.entry_pages.proofs.pages.Pages.add.Goals as goal
use Rattle.entry_pages.proofs.pages.Pages.add.Goals.{After-put}

pub put-requires-clause-same : goal.put-requires-clause-same
put-requires-clause-same c = put_same _ c.args.entry.now c.shared_of-shared.result c.len.result _ _ c.head_of-head.ensures
    (grind (arith, c.shared_of-shared.ensures.shared, c.deref.ensures.value, c.as_bytes.ensures.value, c.as_bytes-2.ensures.value))

-- what is put is the entry
it_is : (c : After-put) →
    IsPut c.self.inside.heads c.self.inside.last.items c.as_bytes-2.result.now c.args.entry.now (with_text c.head_of-head.result c.args.entry.now.target)
it_is c =
    let shared : c.shared_of-shared.result ≡ shared_by c.len.result c.self.inside.last.items c.as_bytes-2.result.now =
    grind (arith, c.shared_of-shared.ensures.shared, c.deref.ensures.value, c.as_bytes.ensures.value, c.as_bytes-2.ensures.value) in
    is_put _ _ _ _ _ c.shared_of-shared.result c.len.result (c.as_bytes-2.ensures.value ∙ c.text-path.ensures.text)
    (path_is _ _ c.text-path.ensures.text c.text-path.ensures.valid c.text-path.utf8) c.len.ensures shared c.head_of-head.ensures

pub invariant_of-self : goal.invariant_of-self
invariant_of-self c =
    let l = c.self.inside in
    put_kept c.put.result l.heads _ l.starts.items _ l.rests.items _ l.last.items _ c.as_bytes-2.result.now c.args.entry.now
    (with_text c.head_of-head.result c.args.entry.now.target)
    c.self.invariant (it_is (goal.at.invariant_of-self c).After-put) c.put.ensures.heads c.put.ensures.starts c.put.ensures.rests c.put.ensures.last
    c.put.ensures.no_head c.put.ensures.no_start c.put.ensures.no_rest c.put.ensures.no_last

pub returns-clause-ok : goal.returns-clause-ok
returns-clause-ok c =
    let l = c.self.inside in
    subst (λ (v : List Entry). OnOk c.put.result (unpacked [] c.put.new.heads c.put.new.rests.items ≡ v ++ c.args.entry.now ∷ [])) c.self.view_is
    (put_told c.put.result l.heads _ l.starts.items l.rests.items _ l.last.items c.as_bytes-2.result.now c.args.entry.now
    (with_text c.head_of-head.result c.args.entry.now.target)
    c.self.invariant (it_is (goal.at.returns-clause-ok c).After-put) c.put.ensures.heads c.put.ensures.rests)
