use Rattle.entry_pages.proofs.Prelude.{◌≡◌, ◌+◌, ◌*◌, ◌<◌, ◌∙◌, arith, rules, ap, sym, subst, length, List, [], take, drop, get_or, ◌-◌, Entry, page_of}
use Rattle.entry_pages.proofs.Prelude.{unpacked}
use Rattle.entry_pages.proofs.Paged.{IsPage, has_page, page_told}
use Rattle.entry_pages.proofs.pages.Pages.page.Goals as goal
use Rattle.entry_pages.proofs.pages.Pages.page.Goals.{After-begin_of-end}

-- what lies between the two beginnings is the page
page_is : (c : After-begin_of-end) → IsPage c.self.inside.rests.items (unpacked [] c.self.inside.heads c.self.inside.rests.items)
    c.args.k c.index-start.result.now c.begin_of-end.result
page_is c =
    let start = c.index-start.result.now in
    let lt = subst (λ (v : List Entry). 256 * c.args.k < length v) (sym c.self.view_is) c.requires in
    let begins : start ≡ get_or c.self.inside.starts.items c.args.k start = search rules in
    let ends : c.begin_of-end.result ≡ get_or c.self.inside.starts.items (c.args.k + 1) c.len.result =
    c.begin_of-end.ensures ∙ ap (λ xs. get_or xs (c.args.k + 1) c.len.result) c.deref.ensures.value in
    page_told c.args.k start c.begin_of-end.result c.len.result c.self.invariant lt begins (grind (arith, c.len.ensures)) ends

pub index-start-requires : goal.index-start-requires
index-start-requires c =
    let has = has_page c.args.k c.self.invariant (subst (λ (v : List Entry). 256 * c.args.k < length v) (sym c.self.view_is) c.requires) in
    omega (arith, has, c.self.inside.starts.ok.0)

pub overflow_add-k : goal.overflow_add-k
overflow_add-k c =
    let has = has_page c.args.k c.self.invariant (subst (λ (v : List Entry). 256 * c.args.k < length v) (sym c.self.view_is) c.requires) in
    omega (arith, has, ap length c.deref.ensures.value)

pub slice_bounds-result-count : goal.slice_bounds-result-count
slice_bounds-result-count c = (page_is (goal.at.slice_bounds-result-count c).After-begin_of-end).in_order

pub slice_bounds-result-start : goal.slice_bounds-result-start
slice_bounds-result-start c = (page_is (goal.at.slice_bounds-result-start c).After-begin_of-end).in_order

pub slice_bounds-result-end : goal.slice_bounds-result-end
slice_bounds-result-end c =
    omega (arith, (page_is (goal.at.slice_bounds-result-end c).After-begin_of-end).inside, ap length c.deref-2.ensures.value)

pub returns : goal.returns
returns c =
    ap (λ b. take (c.begin_of-end.result - c.index-start.result.now) (drop c.index-start.result.now b)) c.deref-2.ensures.value
    ∙ (page_is (goal.at.returns c).After-begin_of-end).is ∙ ap (page_of c.args.k) c.self.view_is
