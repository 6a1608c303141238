use Rattle.flat_list.proofs.Prelude.{rules, ◌≡◌, ◌∙◌, ap, sym, None, Some, Option, ℕ, List, [], ◌∷◌, ◌++◌, option_map, IsUtf8, Entry, entry_behind}
use Rattle.flat_list.proofs.Prelude.{behind_target, line_count}
use Rattle.flat_list.proofs.Decoded.{none_behind, found_same, adds_found, read_utf8}
use Rattle.flat_list.proofs.decoding.add_entry.Goals as goal

pub returns-in_default-clause-no : goal.returns-in_default-clause-no
returns-in_default-clause-no c =
    let none : entry_behind c.args.version c.args.last.now c.args.text.now ≡ None = first_of (cc, search rules) in
    none_behind c.args.version c.args.last.now c.args.text.now c.args.list.now none c.requires.last

pub returns-clause-yes : goal.returns-clause-yes
returns-clause-yes c =
    let d = c.in-Some.entry in
    let found : Option (List ℕ × List ℕ) = option_map (λ f. (f.0, f.1.now)) c.in_ok-found.found in
    let some : entry_behind c.args.version c.args.last.now c.args.text.now ≡ Some d = first_of (cc, search rules) in
    adds_found c.args.version c.args.last.now c.args.text.now c.args.behind.now c.args.list.now c.add.new.self d found some c.in_ok-found.ensures.read
    (search rules) (read_utf8 (λ f. (f.0, f.1.now)) (λ f. IsUtf8 f.0) (λ f. IsUtf8 f.0) c.in_ok-found.found (λ f u. u) c.in_ok-found.ensures.utf8)
    c.requires.last c.requires.ascend (c.in_ok-add.ensures.ok ∙ ap (λ (e : Entry). c.args.list.now ++ e ∷ []) c.take_found-next.ensures.entry)

pub returns-clause-rest : goal.returns-clause-rest
returns-clause-rest c =
    let d = c.in-Some.entry in
    let found : Option (List ℕ × List ℕ) = option_map (λ f. (f.0, f.1.now)) c.in_ok-found.found in
    let some : entry_behind c.args.version c.args.last.now c.args.text.now ≡ Some d = first_of (cc, search rules) in
    c.take_found-next.ensures.rest ∙ ap (behind_target c.args.behind.now)
    (sym (found_same c.args.version c.args.last.now c.args.text.now c.args.behind.now d found some c.in_ok-found.ensures.read))

pub returns-clause-lines : goal.returns-clause-lines
returns-clause-lines c =
    let d = c.in-Some.entry in
    let found : Option (List ℕ × List ℕ) = option_map (λ f. (f.0, f.1.now)) c.in_ok-found.found in
    let some : entry_behind c.args.version c.args.last.now c.args.text.now ≡ Some d = first_of (cc, search rules) in
    c.take_found-next.ensures.lines ∙ ap line_count
    (sym (found_same c.args.version c.args.last.now c.args.text.now c.args.behind.now d found some c.in_ok-found.ensures.read))
