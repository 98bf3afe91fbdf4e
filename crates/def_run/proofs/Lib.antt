mod DrawExamples
