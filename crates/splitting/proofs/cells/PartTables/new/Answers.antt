use Rattle.std.proofs.Common.{refl, arith}
use Rattle.numbering.proofs.Entries.{table_prepared}
use Rattle.splitting.proofs.cells.PartTables.new.Goals as goal

pub returns-clause-none_met : goal.returns-clause-none_met
returns-clause-none_met c =
    let h = c.split_at_mut-edge_words in
    let b = c.args.base in
    record {
      edge_table = rw c.prepare.ensures (table_prepared 2 h.result.0.now b.edges (omega (arith, c.size.ensures, h.ensures.front_len)) c.requires.few.0);
      face_table =
          rw c.prepare-2.ensures
          (table_prepared 4 h.result.1.now b.faces (omega (arith, c.size.ensures, h.ensures.back_len, c.requires.words_fit)) c.requires.few.1);
      no_edge = refl;
      no_face = refl;
    }
