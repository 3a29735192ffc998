-- The grammar's codings are read.
use Rattle.std.proofs.Common.{◌≡◌, ℕ, List, [], ◌∷◌, ◌++◌, map, refl, ap, ◌∙◌}
use Rattle.std.specs.List.{flat_map}
use Rattle.sc_chunks.specs.Coding.{Chunk, data_of}
use Rattle.sc_chunks.proofs.laws.pieces_have_their_codings.Goals as goal

-- the data of chunks are their contents joined
joined : (chunks : List Chunk) → data_of chunks ≡ flat_map (λ (piece : List ℕ). piece) (map (λ (chunk : Chunk). chunk.content) chunks)
joined [] = refl
joined (chunk ∷ chunks) = ap (λ more. chunk.content ++ more) (joined chunks)

pub returns : goal.returns
returns c pieces coding rest are chunks last ends trailers coded carried few = (
  record {
    reads = (record { chunks = chunks; last = last; ends = ends; trailers = trailers }, refl);
    coding_within = coded;
    data_within = carried;
    trailers_within = few;
  },
  joined coding.chunks ∙ ap (flat_map (λ (piece : List ℕ). piece)) are,
)
