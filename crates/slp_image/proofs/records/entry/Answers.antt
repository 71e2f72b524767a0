use Rattle.slp_image.proofs.records.entry.Goals as goal

pub returns-in-Nodes-clause-read : goal.returns-in-Nodes-clause-read
returns-in-Nodes-clause-read g c = rw c.in-Nodes.is c.node_entry.ensures.read

pub returns-in-Nodes-clause-cost : goal.returns-in-Nodes-clause-cost
returns-in-Nodes-clause-cost g c = rw c.in-Nodes.is c.node_entry.ensures.cost

pub returns-in-Texts-clause-read : goal.returns-in-Texts-clause-read
returns-in-Texts-clause-read g c = rw c.in-Texts.is c.text_entry.ensures.read

pub returns-in-Texts-clause-cost : goal.returns-in-Texts-clause-cost
returns-in-Texts-clause-cost g c = rw c.in-Texts.is c.text_entry.ensures.cost
