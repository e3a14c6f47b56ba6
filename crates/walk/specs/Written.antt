-- A walk written into a buffer: from place `at` up to place `to` stand the states of its nodes, and the rest is as before.
use Rattle.std.specs.Prelude.{ℕ, ◌+◌, ◌-◌, ◌%◌, ◌≤◌, ◌<◌, ◌≡◌, refl, List, [], ◌∷◌, ◌++◌, map, length, take, drop, set}
use Rattle.std.proofs.Common.{ap, sym, ◌∙◌, append-nil, append_assoc, length-append, length-set, take-append-drop, take-suc-set, drop-set-lt, drop-drop, add-one, arith}
use Rattle.std.proofs.Math.Bool.{So}
use Rattle.std.proofs.lemmas.List.{map-append, length-map}
use Rattle.words.specs.Over.{over}
use Rattle.graphs.specs.Sets.{Nodes, ◌⊆◌}
use Rattle.graphs.specs.Walk.{Edges, Walk, done, walk_on, walk_join, walk_widen}

-- the states of a list of nodes
abbrev pub states : List ℕ → List ℕ
states xs = map (λ (x : ℕ). x % 64) xs

pub record Written (edge : Edges) (Z : Nodes) (x y : ℕ) (before now : List ℕ) (at to : ℕ) : Type 0 where
  pub nodes : List ℕ
  pub walks : Walk edge Z x nodes y
  pub count : to ≡ at + length nodes
  pub bytes : take to now ≡ take at before ++ states nodes
  pub rest : drop to now ≡ drop to before
  pub size : length now ≡ length before

-- what is behind a later place is the same too
pub rest_later : (before now : List ℕ) (i k : ℕ) → drop i now ≡ drop i before → i ≤ k → drop k now ≡ drop k before
rest_later before now i k e l =
    let p : i + (k - i) ≡ k = omega arith in
    rw p at (sym (drop-drop (k - i) i now) ∙ ap (drop (k - i)) e ∙ drop-drop (k - i) i before)

module _ {edge : Edges} where
  unfoldable pub written_start : {Z : Nodes} {x : ℕ} (before : List ℕ) (at : ℕ) → So (Z x) → Written edge Z x x before before at at
  written_start before at i = record {
    nodes = [];
    walks = done i;
    count = omega arith;
    bytes = sym (append-nil (take at before));
    rest = refl;
    size = refl;
  }

  unfoldable pub written_on : {Z : Nodes} {x y z : ℕ} {before now : List ℕ} {at to : ℕ} → Written edge Z x y before now at to → So (edge y z) → So (Z z) → to < length now
      → Written edge Z x z before (set now to (y % 64)) at (to + 1)
  written_on {y} {before} {now} {at} {to} w e j l = record {
    nodes = w.nodes ++ (y ∷ []);
    walks = walk_on w.walks e j;
    count = rw length-append (omega (arith, w.count));
    bytes = rw (add-one, map-append) (take-suc-set now to (y % 64) l ∙ ap (λ xs. xs ++ (y % 64 ∷ [])) w.bytes ∙ append_assoc (take at before) (states w.nodes) (y % 64 ∷ []));
    rest = drop-set-lt (to + 1) now to (y % 64) (omega arith) ∙ rest_later before now to (to + 1) w.rest (omega arith);
    size = length-set now to (y % 64) ∙ w.size;
  }

  unfoldable pub written_join : {Z : Nodes} {x y z : ℕ} {before now later : List ℕ} {at to up : ℕ} → Written edge Z x y before now at to → Written edge Z y z now later to up
      → Written edge Z x z before later at up
  written_join {before} {now} {at} {to} {up} w v = record {
    nodes = w.nodes ++ v.nodes;
    walks = walk_join w.walks v.walks;
    count = rw length-append (omega (arith, w.count, v.count));
    bytes = rw map-append (v.bytes ∙ ap (λ xs. xs ++ states v.nodes) w.bytes ∙ append_assoc (take at before) (states w.nodes) (states v.nodes));
    rest = v.rest ∙ rest_later before now to up w.rest (omega (arith, v.count));
    size = v.size ∙ w.size;
  }

  unfoldable pub written_widen : {Z W : Nodes} {x y : ℕ} {before now : List ℕ} {at to : ℕ} → Z ⊆ W → Written edge Z x y before now at to → Written edge W x y before now at to
  written_widen h w = record {
    nodes = w.nodes;
    walks = walk_widen h w.walks;
    count = w.count;
    bytes = w.bytes;
    rest = w.rest;
    size = w.size;
  }

  -- how many states stand there
  pub written_count : {Z : Nodes} {x y : ℕ} {before now : List ℕ} {to : ℕ} (w : Written edge Z x y before now 0 to) → length (states w.nodes) ≡ to
  written_count w = omega (arith, w.count, length-map w.nodes (λ (x : ℕ). x % 64))

  -- from the first place on they are laid over the buffer
  pub written_over : {Z : Nodes} {x y : ℕ} {before now : List ℕ} {to : ℕ} (w : Written edge Z x y before now 0 to) → now ≡ over (states w.nodes) before
  written_over {now} {to} w = sym (take-append-drop to now) ∙ rw (w.bytes, w.rest, written_count w)
