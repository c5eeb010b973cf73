use Rattle.crn_engines.proofs.migration.migrated_text.Goals as goal

pub returns-clause-legs : goal.returns-clause-legs
returns-clause-legs c = λ s n h.
    let is_text = c.in_ok-migrate_checkpoint.ensures.old s n h.states h.is_text in
    record {
      leg = record { states = h.states; at = h.at; is_text = is_text };
      report = λ s' report same reports. reports s n same (record { states = h.states; at = h.at; is_text = is_text });
    }
