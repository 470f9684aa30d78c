-- Laws that stood before the structs, kept as they were; no proof needs them now. Assumes nothing.
use Rattle.std.specs.Prelude.{◌≡◌, List, [], map, ℕ, ◌<◌, length, get_or, drop}
use Rattle.std.proofs.Math.Path.{sym, ap}
use Rattle.std.proofs.Common.{◌∙◌, arith}
use Rattle.std.proofs.Math.ListN.{length-map, get_or-map}
use Rattle.definition.specs.Lists.{tabulate}
use Rattle.definition.specs.Hypergraph.{Edge, no_edge}
use Rattle.definition.specs.EdgeView.{edge_at, edges_of}
use Rattle.definition.proofs.UntypedEdges.{untyped}
use Rattle.builder.specs.Builds.{EdgeLists, edges_held}
use Rattle.run.specs.FieldLaws.{front, read_all}
use Rattle.definition.proofs.ListLaws.{length-tabulate}
use Rattle.definition.specs.Sheet.{question_of}
use Rattle.definition.specs.LeafView.{leaf_at, leaves_from}
use Rattle.definition.proofs.InputLaws.{leaves-counted}
use Rattle.definition.specs.Call.{leaves_of, leaves_in}

-- as many leaves as the walk has
pub leaves_same : (bs : List ℕ) (n : ℕ) (rows columns : List ℕ) {m : ℕ} → m ≡ leaves_in bs → leaves_from n rows columns ≡ leaves_of (question_of bs).items
    → leaves_from m rows columns ≡ leaves_of (question_of bs).items
unfolding leaves_from
leaves_same bs n rows columns {m} e f =
    let same : m ≡ n = e ∙ sym (leaves-counted (question_of bs).items) ∙ sym (ap length f) ∙ length-tabulate n (leaf_at rows columns) in
    ap (λ (k : ℕ). leaves_from k rows columns) same ∙ f

-- edges read from the lists that hold them
module _ (es : List Edge) (h : EdgeLists) where
  abbrev lists : EdgeLists
  lists = edges_held es h

  edge_read : (i : ℕ) → i < length es → edge_at lists.left lists.right lists.predicate lists.source [] i ≡ untyped (get_or es i no_edge)
  edge_read i z =
      cc (
        front (λ (e : Edge). e.left) es (drop (length es) h.left) no_edge 0 i z,
        front (λ (e : Edge). e.right) es (drop (length es) h.right) no_edge 0 i z,
        front (λ (e : Edge). e.predicate) es (drop (length es) h.predicate) no_edge 0 i z,
        front (λ (e : Edge). e.source) es (drop (length es) h.source) no_edge 0 i z,
      )

  edges_read : edges_of (length es) lists.left lists.right lists.predicate lists.source [] ≡ map untyped es
  unfolding edges_of
  edges_read =
      ap (λ (k : ℕ). tabulate k (edge_at lists.left lists.right lists.predicate lists.source [])) (sym (length-map es untyped))
      ∙ read_all (map untyped es) (untyped no_edge) (edge_at lists.left lists.right lists.predicate lists.source [])
      (λ i z. edge_read i (omega (arith, length-map es untyped)) ∙ sym (get_or-map untyped es i no_edge))
