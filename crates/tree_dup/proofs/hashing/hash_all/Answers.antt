use Rattle.tree_dup.proofs.Prelude.{rules, arith, ◌≡◌, ◌<◌, ◌+◌, ◌-◌, length, ap, sym, subst, refl, ◌∙◌, holds_kept, holds_cut, File, IsHash, AreHashes}
use Rattle.tree_dup.proofs.Prelude.{kept_first}
use Rattle.tree_dup.proofs.Classes.{still_alike, alike_still}
use Rattle.tree_dup.proofs.Counted.{kept_more}
use Rattle.tree_dup.proofs.Grouped.{causes_none}
use Rattle.tree_dup.proofs.Hashed.{AreHashedFrom, hashed_none, hashed_all, hashed_more, hashed_at, put_length, put_front, put_alike, put_failed}
use Rattle.tree_dup.proofs.Hashed.{put_causes, put_whole}
use Rattle.tree_dup.proofs.hashing.hash_all.Goals as goal

pub loop-place-init : goal.loop-place-init
loop-place-init g c =
    let tree = g.R.Tree.tree c.args.reader.now in
    let files = c.args.files.now.items in
    let found = c.args.found.now in
    record {
      inside = search rules;
      front = λ j d l. refl;
      told = c.requires.told;
      hashed = λ list h. hashed_none tree list files found c.len-place.result (search rules) c.requires.no_groups c.requires.no_failed c.requires.no_changed h;
      alike = still_alike files c.requires.alike;
      whole = λ j d l m. absurd (let at : c.len-place.result ≡ length files = search rules in omega (arith, l, m, at));
      counted = kept_first _ _ _ (ap (λ ps. length ps) c.requires.no_failed);
      causes = causes_none g.R.Tree.gives found c.requires.no_groups c.requires.no_failed c.requires.no_changed;
      same = refl;
      room = refl;
    }

pub kept_hash-hash-requires-clause-told : goal.kept_hash-hash-requires-clause-told
kept_hash-hash-requires-clause-told g c = λ hash there.
    let i = c.loop-place.invariant in
    let tree = g.R.Tree.tree c.args.reader.now in
    let file = c.index.result.now in
    let place = c.loop-place.place - 1 in
    subst (λ t. IsHash t g.R.Tree.gives file hash) (sym i.same)
    (subst (λ (f : File). IsHash tree g.R.Tree.gives f hash) (sym (c.index.ensures ∙ i.front place file (omega arith)))
    (holds_kept (AreHashes tree g.R.Tree.gives c.args.files.now.items) place hash c.loop-place.kept i.told there file))

pub loop-place-preserved : goal.loop-place-preserved
loop-place-preserved g c =
    let i = c.loop-place.invariant in
    let tree = g.R.Tree.tree c.args.reader.now in
    let files = c.loop-place.files.items in
    let files' = c.put.new.files.items in
    let found = c.loop-place.found in
    let found' = c.put.new.found in
    let place = c.loop-place.place - 1 in
    let hash = c.kept_hash-hash.result in
    let k = c.kept_hash-hash.ensures in
    let put = c.in_ok-put.ensures.put in
    let inside : place < length files = (let h = i.inside in omega arith) in
    let hashes : AreHashes tree g.R.Tree.gives files place hash =
    hashed_at tree (g.R.Tree.tree c.loop-place.reader) g.R.Tree.gives files place c.index.result.now hash inside i.same c.index.ensures k.hash in
    record {
      inside = put_length place files files' found found' inside hash put;
      front = λ j d l. put_front place files files' found found' inside hash put j d l ∙ i.front j d (omega arith);
      told = holds_cut (AreHashes tree g.R.Tree.gives c.args.files.now.items) c.loop-place.kept c.kept_hash-hash.new.kept k.cut i.told;
      hashed = λ list h.
          hashed_more tree list g.R.Tree.gives place files files' found found' inside
          (subst (λ n. AreHashedFrom tree list n files found) (let e : c.loop-place.place ≡ place + 1 = omega arith in e) (i.hashed list h)) hash hashes put;
      alike = put_alike place files files' found found' inside hash put i.alike;
      whole = put_whole place files files' found found' inside tree g.R.Tree.gives hash hashes put
          (λ j d l m. i.whole j d (omega (arith, l)) m);
      counted = kept_more _ _ _ _ _ _ _ _ _ i.counted k.counted (put_failed place files files' found found' inside hash put);
      causes = put_causes place files files' found found' inside tree g.R.Tree.gives hash hashes put i.causes;
      same = k.same ∙ i.same;
      room = search rules;
    }

pub returns-clause-hashed : goal.returns-clause-hashed
returns-clause-hashed g c = λ list h.
    hashed_all (g.R.Tree.tree c.args.reader.now) list c.loop-place.files.items c.loop-place.found c.loop-place.place (omega arith)
    (c.loop-place.invariant.hashed list h)

pub returns-clause-whole : goal.returns-clause-whole
returns-clause-whole g c = λ j d l. c.loop-place.invariant.whole j d (omega arith) l

pub returns-clause-alike : goal.returns-clause-alike
returns-clause-alike g c = alike_still c.loop-place.files.items c.loop-place.invariant.alike
